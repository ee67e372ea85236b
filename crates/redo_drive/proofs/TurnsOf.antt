-- A served actor has had a turn of the definition, and the run goes on.
use Rattle.std.proofs.Common.{Bool, List, None, Option, Some, [], ap, append_assoc, append-nil, cond, eqb, false, get_or, length, refl, set, subst, sym, true, ⊎_elim, ℕ, ◌++◌, ◌<◌, ◌==◌, ◌∙◌, ◌≡◌, ◌≢◌, is_some}
use Rattle.std.proofs.lemmas.Bool.{eq-eqb, ne_eqb}
use Rattle.std.proofs.lemmas.List.{length-set, map-set}
use native.Mathlib.Decide.{ℕ_discrete}
use lib.ListN.{get_elem?}
use mathlib.Core.Option.{some, some-injective}
use Rattle.model_core.proofs.Lists.{at_set}
use Rattle.model_core.specs.States as model
use Rattle.model_core.specs.{AnswerFits, after_of, answer_of, archives, checked_of, Entry, filled, Filling, Given, next, old_of, reader_program, reader_took, ReaderState, took, DataSide, LogSide}
use Rattle.model_core.specs.ReaderProgram.{reader_filled}
use Rattle.model_core.specs.Program.{Turn}
use Rattle.model_core.specs.declared.ops.Answer.{Answer}
use Rattle.model_core.specs.declared.ops.Op.{Op}
use Rattle.model_core.specs.declared.ops.Step.{Step}
use Rattle.model_core.specs.declared.steps.ReaderStep.{ReaderStep}
use Rattle.model_core.specs.declared.steps.ReaderStep.TheVariants as reader_step
use Rattle.model_logcore.specs.LogLaws.{LogLaws}
use Rattle.model_pagecore.specs.DataLaws.{DataLaws}
use Rattle.model_running.proofs.EachTurn.{log_then, turn_leaves}
use Rattle.model_running.proofs.Receivers.{receiver_keeps, told_then}
use Rattle.model_running.proofs.SeatsKeep.{turn_keeps_seats}
use Rattle.model_running.specs.ReadHalf.{groups_upto, handed}
use Rattle.redo_disk.specs.{Seen}
use Rattle.redo_drive.proofs.Taken.{number_kept, wrapped}
use Rattle.redo_drive.proofs.Viewed.{own_at, view_at, views_at}
use Rattle.redo_drive.specs.Lists.{lists_of}
use Rattle.redo_drive.specs.Running.{HasSamePages, IsPlayed, RunOf, run_data_side, run_log_side, groups_of, RunsFromWith, RunsWith, IsServed, MayServe, TakesTurn, core_of}
use Rattle.redo_drive.specs.Receiving.{follower_of, handed_by, HasGot, IsSameFollower, MarkFits}
use Rattle.redo_drive.specs.History.{view_of, views_of}
use Rattle.redo_drive.specs.declared.actor.Actor.{Actor}
use Rattle.redo_drive.specs.declared.parts.Parts.{Parts}
use Rattle.redo_follow.specs.Following.{Following}

-- some run of a store with these parts
pub some_run : {L D : Type 0} → Parts L D → RunOf L D
some_run parts = record {
  setup = record {
    base = 0;
    blocks = 0;
    pages = 0;
    page_size = 0;
    slots = 0;
    log_only = true;
    script = λ _. [];
    opened = λ _. record { lsn = 0; bytes = [] };
    closer = 0;
    cleaner = 0;
    checkpointer = 0;
    first_reader = 0;
    last_reader = 0;
    reader_at = λ number. number;
  };
  live = false;
  shape = parts.store.shape;
  first_log = parts.log;
  first_data = parts.store;
}

-- the answer to what an actor asked for is one that it may take
module _ {L D : Type 0} (log_seen : L → Seen) (data_seen : D → Seen) (run : RunOf L D) (old new : Parts L D)
    (who : model.Actor) (o : Op) (r : Answer) (is : o ≡ next who) where
  said : (l : model.Lent) (played : IsPlayed log_seen data_seen run o l old r new)
      → ◌≡◌ {A = Answer} r (answer_of old.words.layout (lists_of old.lists) (is_some old.log.failed) played.code new.log.marks.stable
      old.words.words (next who))
  said l played = played.answered ∙ ap {B = Answer} (λ (z : Op). answer_of old.words.layout (lists_of old.lists) (is_some old.log.failed)
      played.code new.log.marks.stable old.words.words z) is

  pub answer_fits : (l : model.Lent) → IsPlayed log_seen data_seen run o l old r new → MayServe old who
      → AnswerFits who r
  answer_fits l played may =
      subst (λ (z : Answer). AnswerFits who z) (sym (said l played)) (may.fits played.code new.log.marks.stable)

  pub mark_fits : (l : model.Lent) → IsPlayed log_seen data_seen run o l old r new → MayServe old who → MarkFits who r
  mark_fits l played may =
      subst (λ (z : Answer). MarkFits who z) (sym (said l played)) (may.mark played.code new.log.marks.stable)

-- an actor stays what it is, and a reader keeps its number
abbrev pub NoReader : model.Actor → Type 0
NoReader (model.Reader r) = ⊥
NoReader _ = Unit {0}

abbrev pub IsKind : model.Actor → model.Actor → Type 0
IsKind (model.Reader r) b = (w : ReaderState) × (b ≡ model.Reader w) × (w.number ≡ r.number)
IsKind _ b = NoReader b

same_kind : (a : model.Actor) → IsKind a a
same_kind (model.Reader r) = (r, refl, refl)
same_kind (model.User u) = tt
same_kind (model.Writer s) = tt
same_kind (model.Flusher t) = tt
same_kind (model.Closer t) = tt
same_kind (model.Cleaner v) = tt
same_kind (model.Checkpointer t) = tt

either : (b : Bool) (x y : model.Actor) → NoReader x → NoReader y → NoReader (cond b x y)
either true x y one two = one
either false x y one two = two

filled_number : (r : ReaderState) (f : Filling) (s : ReaderStep) → (reader_filled r f s).number ≡ r.number
filled_number r f reader_step.LoadFlushed = refl
filled_number r f reader_step.TakeDevice = refl
filled_number r f reader_step.GiveBroken = refl
filled_number r f reader_step.ReadBlock = refl
filled_number r f reader_step.GiveDevice = refl
filled_number r f reader_step.StorePlace = refl
filled_number r f reader_step.StoreFailed = refl
filled_number r f reader_step.GiveFailed = refl
filled_number r f reader_step.Failed = refl
filled_number r f reader_step.Append = refl
filled_number r f reader_step.StoreLost = refl

took_kind : (a : model.Actor) (f : Filling) (y : Answer) → IsKind a (took (filled a f) y)
took_kind (model.Reader r) f y =
    let s : ReaderState = reader_filled r f r.step in (
      after_of reader_program s y,
      sym (wrapped model.Reader s.checks (checked_of reader_program s (old_of y)) (reader_took s y s.step)),
      number_kept s y ∙ filled_number r f r.step,
    )
took_kind (model.User u) f y = either u.checks _ _ tt tt
took_kind (model.Writer s) f y = either s.checks _ _ tt tt
took_kind (model.Flusher t) f y = either t.checks _ _ tt tt
took_kind (model.Closer t) f y = either t.checks _ _ tt tt
took_kind (model.Cleaner v) f y = either v.checks _ _ tt tt
took_kind (model.Checkpointer t) f y = either t.checks _ _ tt tt

no_groups : (a : model.Actor) (log : List Entry) → NoReader a → ◌≡◌ {A = List Given} (groups_of a log) []
no_groups (model.Reader r) log none = absurd none
no_groups (model.User u) log none = refl
no_groups (model.Writer s) log none = refl
no_groups (model.Flusher t) log none = refl
no_groups (model.Closer t) log none = refl
no_groups (model.Cleaner v) log none = refl
no_groups (model.Checkpointer t) log none = refl

-- WHAT A TURN LEAVES OF A RUN, by the actors as the definitions see them.
module _ {L D : Type 0} {archive : Bool} (log_seen : L → Seen) (data_seen : D → Seen) (run : RunOf L D) (old new : Parts L D)
    (actors after : List model.Actor) (seat : ℕ) (answer : Answer) (step : Step)
    (log_laws : LogLaws (run_log_side log_seen data_seen run))
    (data_laws : DataLaws (run_data_side log_seen data_seen run)) (same : HasSamePages old new)
    (R : RunsWith log_seen data_seen run archive old actors)
    (t : Turn (run_log_side log_seen data_seen run) (run_data_side log_seen data_seen run)
    (core_of log_seen data_seen run old actors) seat answer step (core_of log_seen data_seen run new after)) where
  abbrev pub A : LogSide
  A = run_log_side log_seen data_seen run

  abbrev pub B : DataSide
  B = run_data_side log_seen data_seen run

  -- the log then
  abbrev pub then : List Entry
  then = log_then A log_laws B data_laws run.setup (core_of log_seen data_seen run old actors)
      (core_of log_seen data_seen run new after) seat answer step R.running t

  pub record RunsThen : Type 0 where
    pub runs : RunsWith log_seen data_seen run archive new after
    pub log_is : ◌≡◌ {A = List Entry} runs.running.log_ghost.log then

  pub runs_then : RunsThen
  runs_then =
      let left = turn_leaves A log_laws B data_laws run.setup (core_of log_seen data_seen run old actors)
      (core_of log_seen data_seen run new after) seat answer step R.running t in
      record {
        runs = record {
          limits = R.limits;
          started = R.started;
          its_pages = R.its_pages;
          its_page_size = R.its_page_size;
          its_slots = R.its_slots;
          followers = R.followers;
          bytes = R.bytes;
          list_pages = same.lists ∙ R.list_pages;
          running = left.store;
          seated = turn_keeps_seats A B run.setup (core_of log_seen data_seen run old actors)
              (core_of log_seen data_seen run new after) seat answer step R.seated t;
        };
        log_is = left.log_is;
      }

  -- the run goes on
  abbrev pub goes_on : RunsWith log_seen data_seen run archive new after
  goes_on = runs_then.runs

  -- where the log device tells after the turn it told before it
  pub told_earlier : A.Tells new.log → A.Tells old.log
  told_earlier told = told_then A log_laws B data_laws run.setup (core_of log_seen data_seen run old actors)
      (core_of log_seen data_seen run new after) seat answer step R.running t told

  pub kept_kind : (j : ℕ) (a b : model.Actor) → get_elem? actors j ≡ some a → get_elem? after j ≡ some b → IsKind a b
  kept_kind j a b there later =
      let who : model.Actor = took (filled t.who t.filling) answer in
      ⊎_elim
      (λ here. let e : ◌≡◌ {A = model.Actor} t.who a = some-injective t.who a
      (sym t.who_is ∙ ap (get_elem? actors) (sym here.0) ∙ there) in
      subst (IsKind a) here.1 (subst (λ (z : model.Actor). IsKind a (took (filled z t.filling) answer)) (sym e)
      (took_kind a t.filling answer)))
      (λ other. subst (IsKind a) (some-injective a b (sym there ∙ other.1)) (same_kind a))
      (at_set actors seat j who b (ap (λ (l : List model.Actor). get_elem? l j) (sym t.actors) ∙ later))

  -- what an actor hands on by the turn
  abbrev more_at : ℕ → model.Actor → List Given
  more_at j a = cond (eqb j seat) (handed_by (filled a t.filling)) []

  by_its_own : (j : ℕ) (a : model.Actor) → get_elem? actors j ≡ some a
      → ◌≡◌ {A = List Given} (more_at j t.who) (more_at j a)
  by_its_own j a there = elim (ℕ_discrete j seat) [
    | yes e ↦ ap (more_at j) (some-injective t.who a (sym t.who_is ∙ ap (get_elem? actors) (sym e) ∙ there))
    | no n ↦ ap (λ (b : Bool). let l : List Given = cond b (handed_by (filled t.who t.filling)) [] in l)
        (ne_eqb j seat n)
        ∙ sym (ap (λ (b : Bool). let l : List Given = cond b (handed_by (filled a t.filling)) [] in l)
        (ne_eqb j seat n))
  ]

  nothing_more : (b : Bool) → ◌≡◌ {A = List Given} (cond b [] []) []
  nothing_more true = refl
  nothing_more false = refl

  -- THE GROUPS THAT AN ACTOR HAS HANDED ON grow by those that it hands on.
  abbrev Grown : (j : ℕ) (a b : model.Actor) → Type 0
  Grown j a b = ◌≡◌ {A = List Given} (groups_of b goes_on.running.log_ghost.log)
      (groups_of a R.running.log_ghost.log ++ more_at j a)

  none_grown : (j : ℕ) (a b : model.Actor) → NoReader b → groups_of a R.running.log_ghost.log ≡ []
      → ◌≡◌ {A = List Given} (handed_by (filled a t.filling)) [] → Grown j a b
  none_grown j a b none before nothing =
      no_groups b goes_on.running.log_ghost.log none
      ∙ sym (ap (λ (l : List Given). l ++ more_at j a) before
      ∙ ap (λ (l : List Given). let z : List Given = cond (eqb j seat) l [] in z) nothing ∙ nothing_more (eqb j seat))

  module _ (told : A.Tells new.log) where
    abbrev log : List Entry
    log = goes_on.running.log_ghost.log

    reader_grown : (j : ℕ) (r w : ReaderState) → get_elem? actors j ≡ some (model.Reader r)
        → get_elem? after j ≡ some (model.Reader w) → w.number ≡ r.number
        → Grown j (model.Reader r) (model.Reader w)
    reader_grown j r w there later number = by (archives r) refl
      where
        s : ReaderState
        s = reader_filled r t.filling r.step

        same_w : archives w ≡ archives r
        same_w = ap (λ (n : ℕ). n == 0) number

        same_s : archives s ≡ archives r
        same_s = ap (λ (n : ℕ). n == 0) (filled_number r t.filling r.step)

        Then : Bool → Bool → Bool → Type 0
        Then x y z = ◌≡◌ {A = List Given} (cond x [] (groups_upto w.at log))
            (cond y [] (groups_upto r.at R.running.log_ghost.log) ++ cond (eqb j seat) (cond z [] (handed s)) [])

        by : (b : Bool) → archives r ≡ b → Grown j (model.Reader r) (model.Reader w)
        by true kind =
            subst (λ (x : Bool). Then x (archives r) (archives s)) (sym (same_w ∙ kind))
            (subst (λ (x : Bool). Then true x (archives s)) (sym kind)
            (subst (λ (x : Bool). Then true true x) (sym (same_s ∙ kind)) (sym (nothing_more (eqb j seat)))))
        by false kind =
            subst (λ (x : Bool). Then x (archives r) (archives s)) (sym (same_w ∙ kind))
            (subst (λ (x : Bool). Then false x (archives s)) (sym kind)
            (subst (λ (x : Bool). Then false false x) (sym (same_s ∙ kind))
            (ap (groups_upto w.at) runs_then.log_is
            ∙ receiver_keeps A log_laws B data_laws run.setup (core_of log_seen data_seen run old actors)
            (core_of log_seen data_seen run new after) seat answer step R.running t told j r w there kind later)))

    pub groups_grow : (j : ℕ) (a b : model.Actor) → get_elem? actors j ≡ some a → get_elem? after j ≡ some b
        → ◌≡◌ {A = List Given} (groups_of b goes_on.running.log_ghost.log)
        (groups_of a R.running.log_ghost.log ++ cond (eqb j seat) (handed_by (filled t.who t.filling)) [])
    groups_grow j a b there later =
        by a b there later (kept_kind j a b there later)
        ∙ sym (ap (λ (l : List Given). groups_of a R.running.log_ghost.log ++ l) (by_its_own j a there))
      where
        by : (a b : model.Actor) → get_elem? actors j ≡ some a → get_elem? after j ≡ some b → IsKind a b → Grown j a b
        by (model.Reader r) b there later kind =
            subst (Grown j (model.Reader r)) (sym kind.1) (reader_grown j r kind.0 there
            (later ∙ ap some kind.1) kind.2)
        by (model.User u) b there later kind = none_grown j (model.User u) b kind refl refl
        by (model.Writer s) b there later kind = none_grown j (model.Writer s) b kind refl refl
        by (model.Flusher x) b there later kind = none_grown j (model.Flusher x) b kind refl refl
        by (model.Closer x) b there later kind = none_grown j (model.Closer x) b kind refl refl
        by (model.Cleaner v) b there later kind = none_grown j (model.Cleaner v) b kind refl refl
        by (model.Checkpointer x) b there later kind = none_grown j (model.Checkpointer x) b kind refl refl

-- what a follower's receiver got, and then got more
same_then : {R : Type 0} (f g h : Option (Following R)) → IsSameFollower f g → IsSameFollower g h → IsSameFollower f h
same_then None None None one two = tt
same_then None None (Some h) one two = absurd two
same_then None (Some g) h one two = absurd one
same_then (Some f) None h one two = absurd one
same_then (Some f) (Some g) None one two = absurd two
same_then (Some f) (Some g) (Some h) one two = two ∙ one

got_then : {R : Type 0} (stands : R → List Given → Type 0) (f g h : Option (Following R)) (groups more : List Given)
    → IsSameFollower f g → IsSameFollower g h → HasGot stands f groups g → HasGot stands g more h
    → HasGot stands f (groups ++ more) h
got_then stands None None None groups more one two had got = tt
got_then stands None None (Some h) groups more one two had got = tt
got_then stands None (Some g) h groups more one two had got = absurd one
got_then stands (Some f) None h groups more one two had got = absurd one
got_then stands (Some f) (Some g) None groups more one two had got = absurd two
got_then stands (Some f) (Some g) (Some h) groups more one two had got =
    λ before is. subst (λ (l : List Given). stands h.receiver l) (append_assoc before groups more)
    (got (before ++ groups) (had before is))

module _ {L D R : Type 0} (log_seen : L → Seen) (data_seen : D → Seen) (stands : R → List Given → Type 0)
    (run : RunOf L D) (old new : Parts L D) (actors : List (Actor R)) (seat : ℕ) (d who : Actor R) (step : Step)
    (below : seat < length actors)
    (served : IsServed log_seen data_seen stands run old (get_or actors seat d) step new who) where
  -- the turn of the definition that it had
  abbrev pub its_turn : Turn (run_log_side log_seen data_seen run) (run_data_side log_seen data_seen run)
      (core_of log_seen data_seen run old (views_of actors)) seat served.answer step
      (core_of log_seen data_seen run new (views_of (set actors seat who)))
  its_turn = let played = served.played in record {
    who = view_of (get_or actors seat d);
    who_is = view_at actors seat d below;
    filling = served.filling;
    fills = served.fills;
    code = played.code;
    log_served = played.log_served;
    data_served = played.data_served;
    own_served = played.own_served;
    layout = played.layout;
    words = played.words;
    lists = played.lists;
    answered = played.answered;
    actors = map-set view_of actors seat who ∙ ap (λ (z : model.Actor). set (views_of actors) seat z) served.took;
    ends = served.ends;
  }

  pub takes_turn : TakesTurn log_seen data_seen run old (views_of actors) seat step new (views_of (set actors seat who))
  takes_turn = record { answer = served.answer; turn = its_turn }

  module _ (log_laws : LogLaws (run_log_side log_seen data_seen run))
      (data_laws : DataLaws (run_data_side log_seen data_seen run)) (same : HasSamePages old new) where
    abbrev pub runs_on : {archive : Bool} → RunsWith log_seen data_seen run archive old (views_of actors)
        → RunsWith log_seen data_seen run archive new (views_of (set actors seat who))
    runs_on runs = goes_on log_seen data_seen run old new (views_of actors) (views_of (set actors seat who)) seat
        served.answer step log_laws data_laws same runs its_turn

    -- WITH WHAT FOLLOWERS' RECEIVERS HAVE GOT it goes on too.
    module _ {archive : Bool} (starts : List (Actor R)) (F : RunsFromWith log_seen data_seen stands run archive starts old actors) where
      abbrev mine : Actor R
      mine = get_or actors seat d

      mine_at : get_elem? actors seat ≡ some mine
      mine_at = own_at actors seat d below

      pub still : (j : ℕ) (a b : Actor R) → get_elem? starts j ≡ some a → get_elem? (set actors seat who) j ≡ some b
          → IsSameFollower (follower_of a) (follower_of b)
      still j a b began at = ⊎_elim
          (λ here. subst (λ (z : Actor R). IsSameFollower (follower_of a) (follower_of z)) here.1
          (same_then (follower_of a) (follower_of mine) (follower_of who)
          (F.same j a mine began (ap (get_elem? actors) here.0 ∙ mine_at)) served.same))
          (λ other. F.same j a b began other.1)
          (at_set actors seat j who b at)

      module _ (told : (run_log_side log_seen data_seen run).Tells new.log) where
        abbrev log_now : List Entry
        log_now = (runs_on F.runs).running.log_ghost.log

        before : (run_log_side log_seen data_seen run).Tells old.log
        before = told_earlier log_seen data_seen run old new (views_of actors) (views_of (set actors seat who)) seat
            served.answer step log_laws data_laws same F.runs its_turn told

        grow : (j : ℕ) (a b : Actor R) → get_elem? actors j ≡ some a → get_elem? (set actors seat who) j ≡ some b
            → ◌≡◌ {A = List Given} (groups_of (view_of b) log_now)
            (groups_of (view_of a) F.runs.running.log_ghost.log
            ++ cond (eqb j seat) (handed_by (filled (view_of mine) served.filling)) [])
        grow j a b there later = groups_grow log_seen data_seen run old new (views_of actors)
            (views_of (set actors seat who)) seat served.answer step log_laws data_laws same F.runs its_turn told j
            (view_of a) (view_of b) (views_at actors j a there) (views_at (set actors seat who) j b later)

        pub has_got : (j : ℕ) (a b : Actor R) → get_elem? starts j ≡ some a → get_elem? (set actors seat who) j ≡ some b
            → HasGot stands (follower_of a) (groups_of (view_of b) log_now) (follower_of b)
        has_got j a b began at = ⊎_elim here other (at_set actors seat j who b at)
          where
            Got : Actor R → List Given → Type 0
            Got z groups = HasGot stands (follower_of a) groups (follower_of z)

            here : (j ≡ seat) × (who ≡ b)
                → HasGot stands (follower_of a) (groups_of (view_of b) log_now) (follower_of b)
            here is =
                let there : get_elem? actors j ≡ some mine = ap (get_elem? actors) is.0 ∙ mine_at in
                let more : List Given = handed_by (filled (view_of mine) served.filling) in
                let old_groups : List Given = groups_of (view_of mine) F.runs.running.log_ghost.log in
                let grown : ◌≡◌ {A = List Given} (groups_of (view_of b) log_now) (old_groups ++ more) =
                grow j mine b there at
                ∙ ap (λ (z : Bool). let l : List Given = old_groups ++ cond z more [] in l) (eq-eqb j seat is.0) in
                subst (Got b) (sym grown) (subst (λ (z : Actor R). Got z (old_groups ++ more)) is.1
                (got_then stands (follower_of a) (follower_of mine) (follower_of who) old_groups more
                (F.same j a mine began there) served.same (F.got before j a mine began there) served.got))

            other : (j ≢ seat) × (get_elem? actors j ≡ some b)
                → HasGot stands (follower_of a) (groups_of (view_of b) log_now) (follower_of b)
            other is =
                let more : List Given = handed_by (filled (view_of mine) served.filling) in
                let old_groups : List Given = groups_of (view_of b) F.runs.running.log_ghost.log in
                let grown : ◌≡◌ {A = List Given} (groups_of (view_of b) log_now) old_groups =
                grow j b b is.1 at
                ∙ ap (λ (z : Bool). let l : List Given = old_groups ++ cond z more [] in l) (ne_eqb j seat is.0)
                ∙ append-nil old_groups in
                subst (Got b) (sym grown) (F.got before j a b began is.1)

      abbrev pub runs_from : RunsFromWith log_seen data_seen stands run archive starts new (set actors seat who)
      runs_from = record {
        runs = runs_on F.runs;
        count = length-set actors seat who ∙ F.count;
        same = still;
        got = has_got;
      }
