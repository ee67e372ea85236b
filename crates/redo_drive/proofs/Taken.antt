-- What each actor makes of an answer, as all actors have it.
use Rattle.std.proofs.Common.{Bool, List, [], ap, append-nil, arith, cond, eqb, false, refl, subst, sym, true, ℕ, ◌<◌, ◌∙◌, ◌≡◌}
use Rattle.std.proofs.lemmas.Bool.{ne_eqb}
use Rattle.model_core.specs.States as model
use Rattle.model_core.specs.{after_of, archives, checked_of, filled, Filling, followed, Given, has_all, is_none, old_of, placed_at, reader_ending, reader_holds, reader_program, reader_took, ReaderState, step_of, to_append, took}
use Rattle.model_core.specs.ReaderProgram.{reader_filled, reader_fills}
use Rattle.model_core.specs.declared.ops.Answer.{Answer}
use Rattle.model_core.specs.declared.ops.Step.{Step}
use Rattle.model_core.specs.declared.ops.Step.TheVariants as step
use Rattle.model_core.specs.declared.steps.ReaderStep.{ReaderStep}
use Rattle.model_core.specs.declared.steps.ReaderStep.TheVariants as reader_step
use Rattle.model_running.specs.ReadHalf.{handed_at}
use Rattle.redo_drive.specs.Receiving.{filling_of, handed_by, HasTaken, MarkFits}
use Rattle.redo_drive.specs.declared.actor.Actor.TheVariants as own
use Rattle.redo_follow.specs.{Followed, IsToFollow, StandsFor, TookAnswer}
use Rattle.redo_follow.specs.Following.{Following}

-- an actor's state after an answer
pub wrapped : {S : Type 0} (wrap : S → model.Actor) (b : Bool) (x y : S)
    → ◌≡◌ {A = model.Actor} (wrap (cond b x y)) (cond b (wrap x) (wrap y))
wrapped wrap true x y = refl
wrapped wrap false x y = refl

-- a follower keeps its number
number_checked : (r : ReaderState) (n : ℕ) → (checked_of reader_program r n).number ≡ r.number
number_checked r n = by (eqb n 0)
  where
    by : (b : Bool) → (cond {A = ReaderState} b (record r { checks = false })
        (record r { checks = false; code = n; step = reader_step.Failed })).number ≡ r.number
    by true = refl
    by false = refl

number_either : (b : Bool) (x y : ReaderState) (n : ℕ) → x.number ≡ n → y.number ≡ n
    → (cond {A = ReaderState} b x y).number ≡ n
number_either true x y n one two = one
number_either false x y n one two = two

number_took : (r : ReaderState) (a : Answer) (s : ReaderStep) → (reader_took r a s).number ≡ r.number
number_took r a reader_step.LoadFlushed =
    number_either (has_all r (old_of a)) (record r { mark = old_of a; checks = true; step = reader_step.LoadFlushed })
    (record r { mark = old_of a; step = reader_step.TakeDevice }) r.number refl refl
number_took r a reader_step.TakeDevice = refl
number_took r a reader_step.GiveBroken = refl
number_took r a reader_step.ReadBlock = refl
number_took r a reader_step.GiveDevice =
    number_either (archives r) (to_append r) (followed r) r.number refl refl
number_took r a reader_step.StorePlace = refl
number_took r a reader_step.StoreFailed = refl
number_took r a reader_step.GiveFailed = refl
number_took r a reader_step.Failed = refl
number_took r a reader_step.Append = refl
number_took r a reader_step.StoreLost = refl

pub number_kept : (r : ReaderState) (a : Answer) → (after_of reader_program r a).number ≡ r.number
number_kept r a = number_either r.checks (checked_of reader_program r (old_of a)) (reader_took r a r.step) r.number
    (number_checked r (old_of a)) (number_took r a r.step)

-- where it hands groups on it goes on
goes_on : (code : ℕ) (b : Bool)
    → reader_ending code (cond b reader_step.LoadFlushed reader_step.StorePlace) ≡ step.Moved
goes_on code true = refl
goes_on code false = refl

moved : (b : Bool) (r : ReaderState)
    → (let w : ReaderState = cond b (to_append r) (followed r) in reader_ending w.code w.step) ≡ step.Moved
moved true r = refl
moved false r = goes_on r.code (is_none r.texts)

-- THE ARCHIVER hands nothing on.
module _ {R : Type 0} (stands : R → List Given → Type 0) (r w : ReaderState) (a : Answer) (ends : Step) where
  as_filled : (st : ReaderStep) → ◌≡◌ {A = ReaderState} (reader_filled r (record { block = r.block; texts = r.texts }) st) r
  as_filled reader_step.LoadFlushed = refl
  as_filled reader_step.TakeDevice = refl
  as_filled reader_step.GiveBroken = refl
  as_filled reader_step.ReadBlock = refl
  as_filled reader_step.GiveDevice = refl
  as_filled reader_step.Append = refl
  as_filled reader_step.StorePlace = refl
  as_filled reader_step.StoreFailed = refl
  as_filled reader_step.GiveFailed = refl
  as_filled reader_step.StoreLost = refl
  as_filled reader_step.Failed = refl

  no_texts_in : (st : ReaderStep) → archives r ≡ true → reader_fills r (record { block = r.block; texts = r.texts }) st
  no_texts_in reader_step.GiveDevice kind = λ other. let z : true ≡ false = sym kind ∙ other in absurd (cc)
  no_texts_in reader_step.LoadFlushed kind = tt
  no_texts_in _ kind = tt

  pub archiver_took : archives r ≡ true → w ≡ after_of reader_program r a → ends ≡ step_of (model.Reader r) a
      → HasTaken stands (own.Archiver r) a ends (own.Archiver w)
  archiver_took kind state ends_so =
      let same : ◌≡◌ {A = model.Actor} (filled (model.Reader r) (filling_of (model.Reader r) r.texts)) (model.Reader r) =
      ap model.Reader (as_filled r.step) in
      record {
        texts = r.texts;
        fills = no_texts_in r.step kind;
        state = subst (λ (z : model.Actor). model.Reader w ≡ took z a) (sym same)
            (ap model.Reader state
            ∙ wrapped model.Reader r.checks (checked_of reader_program r (old_of a)) (reader_took r a r.step));
        ends = subst (λ (z : model.Actor). ends ≡ step_of z a) (sym same) ends_so;
        same = tt;
        got = tt;
      }

module _ {R : Type 0} (stands : R → List Given → Type 0) (g : Following R) (a : Answer) (ends : Step) where
  abbrev Took : Following R → Type 0
  Took f = HasTaken stands (own.Follower f) a ends (own.Follower g)

  -- A FOLLOWER AT THE STEP AT WHICH IT HANDS ON the whole groups in front of what it then has.
  module _ (f : Following R) (some : 0 < f.state.number) where
    abbrev at_step : Following R
    at_step = record f { state = record f.state { checks = false; step = reader_step.GiveDevice } }

    hands_at : Followed stands at_step g → ends ≡ step_of (model.Reader at_step.state) a → Took at_step
    hands_at did ends_so =
        let s : ReaderState = at_step.state in
        let texts : List (List ℕ) = did.0 in
        let w : ReaderState = record s { texts = texts } in
        let kind : archives s ≡ false = ne_eqb s.number 0 (λ none. omega arith) in
        let is : ◌≡◌ {A = ReaderState} g.state (followed w) = did.2 in
        record {
          texts = texts;
          fills = λ _. did.1;
          state = ap model.Reader is
              ∙ sym (ap (λ (b : Bool). model.Reader (cond b (to_append w) (followed w))) kind);
          ends = ends_so ∙ moved (archives s) s ∙ sym (moved (archives w) w);
          same = ap (λ (r : ReaderState). r.number) is;
          got = subst (λ (b : Bool). StandsFor stands f.receiver (cond b [] (placed_at s.at texts)) g.receiver)
              (sym kind) did.3;
        }

    hands_on : f.state.checks ≡ false → f.state.step ≡ reader_step.GiveDevice → Followed stands f g
        → ends ≡ step_of (model.Reader f.state) a → Took f
    hands_on free at did ends_so =
        let path : ◌≡◌ {A = Following R} at_step f =
        λ i. record f { state = record f.state { checks = sym free i; step = sym at i } } in
        subst Took path (hands_at (subst (λ (x : Following R). Followed stands x g) (sym path) did)
        (subst (λ (x : Following R). ends ≡ step_of (model.Reader x.state) a) (sym path) ends_so))

  -- ANYWHERE ELSE it hands nothing on.
  module _ (f : Following R) (other : f.state.step ≡ reader_step.GiveDevice → ⊥) where
    abbrev s : ReaderState
    s = f.state

    abbrev nothing : Filling
    nothing = filling_of (model.Reader s) []

    no_texts : (st : ReaderStep) → s.step ≡ st → reader_fills s nothing st
    no_texts reader_step.GiveDevice is = absurd (other is)
    no_texts reader_step.LoadFlushed is = tt
    no_texts reader_step.TakeDevice is = tt
    no_texts reader_step.GiveBroken is = tt
    no_texts reader_step.ReadBlock is = tt
    no_texts reader_step.StorePlace is = tt
    no_texts reader_step.StoreFailed is = tt
    no_texts reader_step.GiveFailed is = tt
    no_texts reader_step.Failed is = tt
    no_texts reader_step.Append is = tt
    no_texts reader_step.StoreLost is = tt

    same_state : (st : ReaderStep) → s.step ≡ st
        → ◌≡◌ {A = model.Actor} (model.Reader (reader_filled s nothing st)) (model.Reader s)
    same_state reader_step.GiveDevice is = absurd (other is)
    same_state reader_step.LoadFlushed is = refl
    same_state reader_step.TakeDevice is = refl
    same_state reader_step.GiveBroken is = refl
    same_state reader_step.ReadBlock is = refl
    same_state reader_step.StorePlace is = refl
    same_state reader_step.StoreFailed is = refl
    same_state reader_step.GiveFailed is = refl
    same_state reader_step.Failed is = refl
    same_state reader_step.Append is = refl
    same_state reader_step.StoreLost is = refl

    none_handed : (b c : Bool) (st : ReaderStep) → s.step ≡ st
        → ◌≡◌ {A = List Given} (cond b [] (cond c [] (handed_at s st))) []
    none_handed true c st is = refl
    none_handed false true st is = refl
    none_handed false false reader_step.GiveDevice is = absurd (other is)
    none_handed false false reader_step.LoadFlushed is = refl
    none_handed false false reader_step.TakeDevice is = refl
    none_handed false false reader_step.GiveBroken is = refl
    none_handed false false reader_step.ReadBlock is = refl
    none_handed false false reader_step.StorePlace is = refl
    none_handed false false reader_step.StoreFailed is = refl
    none_handed false false reader_step.GiveFailed is = refl
    none_handed false false reader_step.Failed is = refl
    none_handed false false reader_step.Append is = refl
    none_handed false false reader_step.StoreLost is = refl

    goes : (g.state ≡ after_of reader_program s a) → g.receiver ≡ f.receiver
        → ends ≡ step_of (model.Reader s) a → Took f
    goes state receiver ends_so =
        let as_was : ◌≡◌ {A = model.Actor} (filled (model.Reader s) nothing) (model.Reader s) =
        same_state s.step refl in
        let took_so : ◌≡◌ {A = model.Actor} (model.Reader g.state) (took (model.Reader s) a) =
        ap model.Reader state
        ∙ wrapped model.Reader s.checks (checked_of reader_program s (old_of a)) (reader_took s a s.step) in
        let nothing_handed : ◌≡◌ {A = List Given} (handed_by (filled (model.Reader s) nothing)) [] =
        ap handed_by as_was ∙ none_handed (archives s) s.checks s.step refl in
        record {
          texts = [];
          fills = no_texts s.step refl;
          state = subst (λ (z : model.Actor). model.Reader g.state ≡ took z a) (sym as_was) took_so;
          ends = subst (λ (z : model.Actor). ends ≡ step_of z a) (sym as_was) ends_so;
          same = ap (λ (r : ReaderState). r.number) state ∙ number_kept s a;
          got = subst (λ (more : List Given). StandsFor stands f.receiver more g.receiver) (sym nothing_handed)
              (λ got is. subst (λ (l : List Given). stands g.receiver l) (sym (append-nil got))
              (subst (λ (r : R). stands r got) (sym receiver) is));
        }

  -- WHAT IT ENSURES is what all actors do.
  pub follower_took : (f : Following R) → MarkFits (model.Reader f.state) a → 0 < f.state.number
      → TookAnswer stands f a g → ends ≡ step_of (model.Reader f.state) a → Took f
  follower_took f fits some did ends_so = by f.state.checks f.state.step refl refl did
    where
      Then : Bool → Type 0
      Then b = cond b (Followed stands f g)
          ((g.state ≡ after_of reader_program f.state a) × (g.receiver ≡ f.receiver))

      still : (st : ReaderStep) → f.state.step ≡ st → (st ≡ reader_step.GiveDevice → ⊥)
          → (g.state ≡ after_of reader_program f.state a) × (g.receiver ≡ f.receiver) → Took f
      still st at other went = goes f (λ e. other (sym at ∙ e)) went.0 went.1 ends_so

      checked : (st : ReaderStep) → reader_holds st ≡ false → st ≡ reader_step.GiveDevice → ⊥
      checked st free is = let z : reader_holds reader_step.GiveDevice ≡ false = ap reader_holds (sym is) ∙ free in cc

      by : (b : Bool) (st : ReaderStep) → f.state.checks ≡ b → f.state.step ≡ st
          → Then (IsToFollow (record f.state { checks = b; step = st })) → Took f
      by true st checks at went =
          still st at (checked st (ap reader_holds (sym at) ∙ fits.1 checks)) went
      by false reader_step.GiveDevice checks at went = hands_on f some checks at went ends_so
      by false reader_step.LoadFlushed checks at went = still reader_step.LoadFlushed at (λ e. absurd (cc)) went
      by false reader_step.TakeDevice checks at went = still reader_step.TakeDevice at (λ e. absurd (cc)) went
      by false reader_step.GiveBroken checks at went = still reader_step.GiveBroken at (λ e. absurd (cc)) went
      by false reader_step.ReadBlock checks at went = still reader_step.ReadBlock at (λ e. absurd (cc)) went
      by false reader_step.StorePlace checks at went = still reader_step.StorePlace at (λ e. absurd (cc)) went
      by false reader_step.StoreFailed checks at went = still reader_step.StoreFailed at (λ e. absurd (cc)) went
      by false reader_step.GiveFailed checks at went = still reader_step.GiveFailed at (λ e. absurd (cc)) went
      by false reader_step.Failed checks at went = still reader_step.Failed at (λ e. absurd (cc)) went
      by false reader_step.Append checks at went = still reader_step.Append at (λ e. absurd (cc)) went
      by false reader_step.StoreLost checks at went = still reader_step.StoreLost at (λ e. absurd (cc)) went
