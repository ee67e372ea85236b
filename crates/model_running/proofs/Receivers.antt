-- What a follower has handed on is the groups of the log up to its place, in the log's order: each turn keeps that.
use Rattle.std.proofs.Common.{Bool, List, [], ap, append-nil, arith, cond, eqb, false, refl, set, subst, sym, true, ℕ, ◌++◌, ◌==◌, ◌∙◌, ◌≡◌, ◌≢◌}
use Rattle.std.proofs.lemmas.Bool.{eq-eqb, ne_eqb}
use native.Mathlib.Decide.{ℕ_discrete}
use lib.ListN.{get_elem?}
use mathlib.Core.Option.{some, some-injective}
use Rattle.model_core.proofs.Lists.{set_at, set_else}
use Rattle.model_core.specs.{Actor, after_of, archives, AreInFront, Core, Entry, filled, Filling, followed, Given, has_all, Listed, log_left, old_of, pending, placed_at, reader_program, reader_took, ReaderState, SharedWords, to_append, took, DataSide, LogSide, Setup}
use Rattle.model_core.specs.States as actor
use Rattle.model_core.specs.ReaderProgram.{reader_filled}
use Rattle.model_core.specs.Program.{Turn}
use Rattle.model_core.specs.declared.ops.Answer.{Answer}
use Rattle.model_core.specs.declared.ops.Step.{Step}
use Rattle.model_core.specs.declared.steps.ReaderStep.{ReaderStep}
use Rattle.model_core.specs.declared.steps.ReaderStep.TheVariants as reader_step
use Rattle.model_logcore.specs.{LogGhost}
use Rattle.model_logcore.specs.LogLaws.{LogLaws}
use Rattle.model_pagecore.specs.{PageGhost}
use Rattle.model_pagecore.specs.DataLaws.{DataLaws}
use Rattle.model_running.proofs.EachTurn.{actors_filled, both_filled, filled_at, log_then, served_filled, who_filled}
use Rattle.model_running.proofs.Filling.{is_filled}
use Rattle.model_running.proofs.Following.{AreTexts, bound_upto}
use Rattle.model_running.proofs.LogCalls.{told_before}
use Rattle.model_running.proofs.ReadKeeps.{groups_later, LogGrows}
use Rattle.model_running.proofs.ReadStays.{IsFilled, ReaderIsFilled, reserved, same_log, texts_of_log}
use Rattle.model_running.proofs.ReadTurns.{follows}
use Rattle.model_running.specs.ReadHalf.{FollowerAt, FollowerHas, groups_upto, handed, handed_at, HasByKind, ReaderHas}
use Rattle.model_running.specs.Watermarks.{BothHalves, IsRunning}

module _ (D : LogSide) (L : LogLaws D) (E : DataSide) (EL : DataLaws E) (c : Setup) (m : SharedWords)
    (g : LogGhost) (h : PageGhost) (ls : ℕ → List Listed) (p : D.Part) (d : E.Part) (actors : List Actor) (seat : ℕ)
    (both : BothHalves D E c m g h ls p d actors) (told : D.Tells p) where
  follower : (j : ℕ) (r : ReaderState) → get_elem? actors j ≡ some (actor.Reader r) → archives r ≡ false
      → FollowerHas c m g.log r
  follower j r at kind =
      let R : ReaderHas c m g.log j r = (both.reading told).each j (actor.Reader r) at in
      subst (λ (b : Bool). HasByKind c m g.log b r) kind R.has

  -- a turn of any actor leaves the groups up to a follower's place
  same_groups : (a : Actor) → get_elem? actors seat ≡ some a → (j : ℕ) (r : ReaderState)
      → get_elem? actors j ≡ some (actor.Reader r) → archives r ≡ false
      → ◌≡◌ {A = List Given} (groups_upto r.at (log_left g.log m.sn a)) (groups_upto r.at g.log)
  same_groups a at j r there kind =
      let tiles = both.logged.global.tiled.tiles in
      let F = follower j r there kind in
      groups_later c m m g.log (log_left g.log m.sn a) m.sn tiles (omega arith) (grows a at) r.at
      (bound_upto g.log c.base m.sn r.at tiles F.bound)
    where
      grows : (a : Actor) → get_elem? actors seat ≡ some a → LogGrows g.log (log_left g.log m.sn a) m.sn
      grows (actor.User u) at = reserved D L E EL c m g h ls p d actors seat both 0 p told told u at u.checks refl
      grows _ at = same_log g.log m.sn

  -- its own turn adds those that it hands on
  hands_on : (r : ReaderState) → get_elem? actors seat ≡ some (actor.Reader r) → archives r ≡ false
      → ReaderIsFilled r r.step → (y : Answer)
      → ◌≡◌ {A = List Given} (groups_upto (after_of reader_program r y).at g.log) (groups_upto r.at g.log ++ handed r)
  hands_on r at kind full y = by r.checks (old_of y == 0)
    where
      Grown : ReaderState → List Given → Type 0
      Grown w more = ◌≡◌ {A = List Given} (groups_upto w.at g.log) (groups_upto r.at g.log ++ more)

      still : (w : ReaderState) → w.at ≡ r.at → Grown w []
      still w same = ap (λ (x : ℕ). groups_upto x g.log) same ∙ sym (append-nil (groups_upto r.at g.log))

      F : FollowerHas c m g.log r
      F = follower seat r at kind

      R : ReaderHas c m g.log seat r
      R = (both.reading told).each seat (actor.Reader r) at

      all : AreTexts g.log
      all = texts_of_log D E c m g h ls p d actors both

      given : (b : Bool) → archives r ≡ b → FollowerAt c m g.log r reader_step.GiveDevice
          → AreInFront (pending r) r.texts → Grown (cond b (to_append r) (followed r)) (placed_at r.at r.texts)
      given true other k front = absurd (cc)
      given false same k front =
          (follows c m g.log m.sn both.logged.global.tiled.tiles all seat r R F k.0 k.1 front).1

      own : (st : ReaderStep) → r.step ≡ st → ReaderIsFilled r st → Grown (reader_took r y st) (handed_at r st)
      own reader_step.GiveDevice is full =
          given (archives r) refl (subst (FollowerAt c m g.log r) is F.step) (full kind)
      own reader_step.LoadFlushed is full = loaded (has_all r (old_of y))
        where
          waits : ReaderState
          waits = record r { mark = old_of y; checks = true; step = reader_step.LoadFlushed }

          more : ReaderState
          more = record r { mark = old_of y; step = reader_step.TakeDevice }

          loaded : (b : Bool) → Grown (cond b waits more) []
          loaded true = still waits refl
          loaded false = still more refl
      own st is full = still (reader_took r y st) refl

      by : (b n : Bool) → Grown (cond b (cond n (record r { checks = false })
          (record r { checks = false; code = old_of y; step = reader_step.Failed })) (reader_took r y r.step))
          (cond b [] (handed_at r r.step))
      by true true = still (record r { checks = false }) refl
      by true false = still (record r { checks = false; code = old_of y; step = reader_step.Failed }) refl
      by false n = own r.step refl full

abbrev at_of : Actor → ℕ
at_of (actor.Reader r) = r.at
at_of _ = 0

reader_of : (r w : ReaderState) → actor.Reader r ≡ actor.Reader w → ◌≡◌ {A = ReaderState} r w
reader_of r w same = cc

took_reader : (r : ReaderState) (y : Answer)
    → ◌≡◌ {A = Actor} (took (actor.Reader r) y) (actor.Reader (after_of reader_program r y))
took_reader r y = by r.checks (cond (old_of y == 0) goes_on fails) (reader_took r y r.step)
  where
    goes_on : ReaderState
    goes_on = record r { checks = false }

    fails : ReaderState
    fails = record r { checks = false; code = old_of y; step = reader_step.Failed }

    by : (b : Bool) (x z : ReaderState)
        → ◌≡◌ {A = Actor} (cond b (actor.Reader x) (actor.Reader z)) (actor.Reader (cond b x z))
    by true x z = refl
    by false x z = refl

filled_same : (r : ReaderState) (f : Filling) (st : ReaderStep)
    → ((reader_filled r f st).at ≡ r.at) × (archives (reader_filled r f st) ≡ archives r)
filled_same r f reader_step.ReadBlock = (refl, refl)
filled_same r f reader_step.GiveDevice = (refl, refl)
filled_same r f _ = (refl, refl)

-- THE GROUPS UP TO A FOLLOWER'S PLACE, in the log after a turn, are those before it and then what it hands on.
module _ (D : LogSide) (L : LogLaws D) (E : DataSide) (EL : DataLaws E) (c : Setup) (old new : Core D E)
    (seat : ℕ) (answer : Answer) (step : Step) (before : IsRunning D E c old)
    (t : Turn D E old seat answer step new) (told : D.Tells new.log_part) where
  abbrev log : List Entry
  log = before.log_ghost.log

  abbrev then : List Entry
  then = log_then D L E EL c old new seat answer step before t

  abbrev who : Actor
  who = who_filled D L E EL c old new seat answer step before t

  abbrev actors : List Actor
  actors = actors_filled D L E EL c old new seat answer step before t

  both : BothHalves D E c before.shared before.log_ghost before.page_ghost old.lists old.log_part old.data_part
      actors
  both = both_filled D L E EL c old new seat answer step before t

  who_at : get_elem? actors seat ≡ some who
  who_at = filled_at D L E EL c old new seat answer step before t

  pub told_then : D.Tells old.log_part
  told_then = told_before D L E EL c before.shared before.log_ghost before.page_ghost old.lists old.log_part
      old.data_part actors seat both t.code new.log_part told who who_at
      (served_filled D L E EL c old new seat answer step before t)

  pub receiver_keeps : (j : ℕ) (r w : ReaderState) → get_elem? old.actors j ≡ some (actor.Reader r) → archives r ≡ false
      → get_elem? new.actors j ≡ some (actor.Reader w)
      → ◌≡◌ {A = List Given} (groups_upto w.at then)
      (groups_upto r.at log ++ cond (eqb j seat) (handed (reader_filled r t.filling r.step)) [])
  receiver_keeps j r w there kind later = elim (ℕ_discrete j seat) [ yes e ↦ mine e | no n ↦ other n ]
    where
      Grown : List Given → Type 0
      Grown more = ◌≡◌ {A = List Given} (groups_upto w.at then) (groups_upto r.at log ++ more)

      By : Bool → Type 0
      By b = Grown (cond b (handed (reader_filled r t.filling r.step)) [])

      moved : get_elem? (set old.actors seat (took who answer)) j ≡ some (actor.Reader w)
      moved = ap (λ (l : List Actor). get_elem? l j) (sym t.actors) ∙ later

      other : j ≢ seat → By (eqb j seat)
      other n =
          let same : ◌≡◌ {A = ReaderState} w r = reader_of w r (some-injective (actor.Reader w) (actor.Reader r)
          (sym moved ∙ set_else old.actors seat j (took who answer) n ∙ there)) in
          let stays = same_groups D L E EL c before.shared before.log_ghost before.page_ghost old.lists
          old.log_part old.data_part actors seat both told_then who who_at j r
          (set_else old.actors seat j who n ∙ there) kind in
          subst By (sym (ne_eqb j seat n))
          (ap (λ (x : ReaderState). groups_upto x.at then) same ∙ stays ∙ sym (append-nil (groups_upto r.at log)))

      mine : j ≡ seat → By (eqb j seat)
      mine e =
          let f = t.filling in
          let s : ReaderState = reader_filled r f r.step in
          let is : ◌≡◌ {A = Actor} t.who (actor.Reader r) = some-injective t.who (actor.Reader r)
          (sym t.who_is ∙ ap (get_elem? old.actors) (sym e) ∙ there) in
          let whole : ◌≡◌ {A = Actor} who (actor.Reader s) = ap (λ (a : Actor). filled a f) is in
          let at : get_elem? actors seat ≡ some (actor.Reader s) = who_at ∙ ap some whole in
          let full : ReaderIsFilled s s.step = subst IsFilled whole (is_filled t.who f t.fills) in
          let put : get_elem? (set old.actors seat (took who answer)) seat ≡ some (took who answer) =
          set_at old.actors seat t.who (took who answer) t.who_is in
          let then_is : ◌≡◌ {A = Actor} (actor.Reader w) (actor.Reader (after_of reader_program s answer)) =
          some-injective (actor.Reader w) (took who answer)
          (sym moved ∙ ap (get_elem? (set old.actors seat (took who answer))) e ∙ put)
          ∙ ap (λ (a : Actor). took a answer) whole ∙ took_reader s answer in
          let place : w.at ≡ (after_of reader_program s answer).at = ap at_of then_is in
          let same : ◌≡◌ {A = List Entry} then log = ap (log_left log before.shared.sn) whole in
          let grown = hands_on D L E EL c before.shared before.log_ghost before.page_ghost old.lists old.log_part
          old.data_part actors seat both told_then s at ((filled_same r f r.step).1 ∙ kind) full answer in
          subst By (sym (eq-eqb j seat e))
          (ap (groups_upto w.at) same ∙ ap (λ (x : ℕ). groups_upto x log) place ∙ grown
          ∙ ap (λ (x : ℕ). groups_upto x log ++ handed s) (filled_same r f r.step).0)
