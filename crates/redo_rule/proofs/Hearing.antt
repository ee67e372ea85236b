-- What each actor has handed on, after a turn: the groups of the log up to its place, and blocks of the run.
use Rattle.std.proofs.Common.{Bool, List, ap, append-nil, append_assoc, cond, eq-eqb, eqb, false, ne_eqb, refl, subst, sym, true, ℕ, [], ⊎_elim, ◌++◌, ◌==◌, ◌∙◌, ◌∷◌, ◌≡◌, ◌≢◌}
use Rattle.std.specs.List.{AllByRecursion}
use lib.ListN.{get_elem?}
use mathlib.Core.Option.{some}
use Rattle.model_core.specs.States as model
use Rattle.model_core.specs.{DataSide, LogSide, Entry, filled, Given, LostAt}
use Rattle.model_core.specs.Program.{Turn}
use Rattle.model_core.specs.declared.ops.Answer.{Answer}
use Rattle.model_core.specs.declared.ops.Step.{Step}
use Rattle.model_core.specs.declared.steps.ReaderStep.{ReaderStep}
use Rattle.model_core.specs.declared.steps.ReaderStep.TheVariants as reader_step
use Rattle.model_logcore.specs.LogLaws.{LogLaws}
use Rattle.model_pagecore.specs.DataLaws.{DataLaws}
use Rattle.model_running.proofs.EachTurn.{actors_filled, both_filled, filled_at, who_filled}
use Rattle.model_running.proofs.ReadKeeps.{LogGrows}
use Rattle.model_running.proofs.RunBlocks.{grown}
use Rattle.model_running.proofs.Receivers.{told_then}
use Rattle.model_running.specs.ReadHalf.{HasRunBlock, RunBlockAt}
use Rattle.redo_disk.specs.{Seen}
use Rattle.redo_drive.proofs.TurnsOf.{goes_on, groups_grow, runs_then}
use Rattle.redo_drive.specs.{lists_of, HasSamePages, RunOf, run_data_side, run_log_side, RunsWith, core_of, handed_by}
use Rattle.redo_drive.specs.declared.parts.Parts.{Parts}
use Rattle.redo_rule.specs.Handing.{appended_at, appended_by, HaveHandedOn, IsOfRun, with_more}
use Rattle.redo_rule.specs.declared.law.Block.{Block}
use Rattle.redo_rule.specs.declared.law.Heard.{Heard}

-- what has been handed on after a turn of the actor with this number, which hands on so much
abbrev pub heard_then : (ℕ → Heard) → (seat : ℕ) → List Given → List Block → ℕ → Heard
heard_then heard seat groups blocks n = cond (n == seat) (with_more (heard n) groups blocks) (heard n)

pub heard_here : (heard : ℕ → Heard) (seat : ℕ) (groups : List Given) (blocks : List Block)
    → ◌≡◌ {A = Heard} (heard_then heard seat groups blocks seat) (with_more (heard seat) groups blocks)
heard_here heard seat groups blocks =
    ap (λ (b : Bool). let l : Heard = cond b (with_more (heard seat) groups blocks) (heard seat) in l) (eq-eqb seat seat refl)

pub heard_else : (heard : ℕ → Heard) (seat : ℕ) (groups : List Given) (blocks : List Block) (n : ℕ) → n ≢ seat
    → ◌≡◌ {A = Heard} (heard_then heard seat groups blocks n) (heard n)
heard_else heard seat groups blocks n far =
    ap (λ (b : Bool). let l : Heard = cond b (with_more (heard n) groups blocks) (heard n) in l) (ne_eqb n seat far)

-- blocks are of a run that has grown
module _ (D : LogSide) (base : ℕ) (log log' : List Entry) where
  pub of_longer : (more : List Entry) → ◌≡◌ {A = List Entry} log' (log ++ more) → (blocks : List Block)
      → AllByRecursion (IsOfRun D base log) blocks → AllByRecursion (IsOfRun D base log') blocks
  of_longer more is [] all = tt
  of_longer more is (b ∷ bs) all = (
    record {
      early = all.0.early;
      late = all.0.late ++ more;
      grown = is ∙ ap (λ (l : List Entry). l ++ more) all.0.grown ∙ append_assoc all.0.early all.0.late more;
      block = all.0.block;
    },
    of_longer more is bs all.1,
  )

  of_grown : (sn : ℕ) → LogGrows log log' sn → (blocks : List Block) → AllByRecursion (IsOfRun D base log) blocks
      → AllByRecursion (IsOfRun D base log') blocks
  of_grown sn grows blocks all = ⊎_elim
      (λ same. of_longer [] (same ∙ sym (append-nil log)) blocks all)
      (λ more. of_longer (more.0 ∷ []) more.1 blocks all) grows.how

of_both : (D : LogSide) (base : ℕ) (log : List Entry) (xs ys : List Block) → AllByRecursion (IsOfRun D base log) xs
    → AllByRecursion (IsOfRun D base log) ys → AllByRecursion (IsOfRun D base log) (xs ++ ys)
of_both D base log [] ys all more = more
of_both D base log (x ∷ xs) ys all more = (all.0, of_both D base log xs ys all.1 more)

module _ {L D : Type 0} {archive : Bool} (log_seen : L → Seen) (data_seen : D → Seen) (run : RunOf L D) (old new : Parts L D)
    (actors after : List model.Actor) (seat : ℕ) (answer : Answer) (step : Step)
    (log_laws : LogLaws (run_log_side log_seen data_seen run))
    (data_laws : DataLaws (run_data_side log_seen data_seen run)) (same : HasSamePages old new)
    (runs : RunsWith log_seen data_seen run archive old actors)
    (t : Turn (run_log_side log_seen data_seen run) (run_data_side log_seen data_seen run)
    (core_of log_seen data_seen run old actors) seat answer step (core_of log_seen data_seen run new after)) where
  abbrev E : LogSide
  E = run_log_side log_seen data_seen run

  abbrev F : DataSide
  F = run_data_side log_seen data_seen run

  abbrev then : RunsWith log_seen data_seen run archive new after
  then = goes_on log_seen data_seen run old new actors after seat answer step log_laws data_laws same runs t

  abbrev log_was : List Entry
  log_was = runs.running.log_ghost.log

  abbrev log_now : List Entry
  log_now = then.running.log_ghost.log

  abbrev Handed : List Entry → List Block → Type 0
  Handed log blocks = AllByRecursion (IsOfRun E run.setup.base log) blocks

  pick : (b : Bool) (h : Heard) (groups : List Given) (blocks : List Block)
      → ◌≡◌ {A = List Given} (cond b (with_more h groups blocks) h).groups (h.groups ++ cond b groups [])
  pick true h groups blocks = refl
  pick false h groups blocks = sym (append-nil h.groups)

  before : E.Tells new.log → E.Tells old.log
  before told = told_then E log_laws F data_laws run.setup (core_of log_seen data_seen run old actors)
      (core_of log_seen data_seen run new after) seat answer step runs.running t told

  -- the log grows
  grows : E.Tells new.log → LogGrows log_was log_now runs.running.shared.sn
  grows told =
      let W = runs.running in
      let c_old = core_of log_seen data_seen run old actors in
      let c_new = core_of log_seen data_seen run new after in
      subst (λ (l : List Entry). LogGrows log_was l W.shared.sn)
      (sym (runs_then log_seen data_seen run old new actors after seat answer step log_laws data_laws same runs t).log_is)
      (grown E log_laws F data_laws run.setup W.shared W.log_ghost W.page_ghost (lists_of old.lists) old.log old.store
      (actors_filled E log_laws F data_laws run.setup c_old c_new seat answer step W t) seat
      (both_filled E log_laws F data_laws run.setup c_old c_new seat answer step W t) t.code new.log told (before told)
      (who_filled E log_laws F data_laws run.setup c_old c_new seat answer step W t)
      (filled_at E log_laws F data_laws run.setup c_old c_new seat answer step W t))

  -- what is appended by the turn is of the run
  appended : E.Tells old.log → (a : model.Actor) → get_elem? actors seat ≡ some a → Handed log_was (appended_by a)
  appended told (model.Reader r) at = by r.checks r.step refl
    where
      of_step : (st : ReaderStep) → r.step ≡ st → Handed log_was (appended_at r st)
      of_step reader_step.Append is =
          let lost : LostAt r reader_step.Append =
          subst (LostAt r) is (runs.running.both.in_run seat (model.Reader r) at).lost in
          let k : HasRunBlock E run.setup log_was r =
          subst (RunBlockAt E run.setup log_was r) is (runs.running.both.blocks told seat r at lost.0) in
          (record { early = k.early; late = k.late; grown = k.grown; block = k.block }, tt)
      of_step reader_step.LoadFlushed is = tt
      of_step reader_step.TakeDevice is = tt
      of_step reader_step.GiveBroken is = tt
      of_step reader_step.ReadBlock is = tt
      of_step reader_step.GiveDevice is = tt
      of_step reader_step.StorePlace is = tt
      of_step reader_step.StoreFailed is = tt
      of_step reader_step.GiveFailed is = tt
      of_step reader_step.StoreLost is = tt
      of_step reader_step.Failed is = tt

      by : (b : Bool) (st : ReaderStep) → r.step ≡ st → Handed log_was (cond b [] (appended_at r st))
      by true st is = tt
      by false st is = of_step st is
  appended told (model.User u) at = tt
  appended told (model.Writer s) at = tt
  appended told (model.Flusher s) at = tt
  appended told (model.Closer s) at = tt
  appended told (model.Cleaner s) at = tt
  appended told (model.Checkpointer s) at = tt

  blocks_pick : (b : Bool) (h : Heard) (groups : List Given) (blocks : List Block) → Handed log_now h.blocks
      → Handed log_now blocks → Handed log_now (cond b (with_more h groups blocks) h).blocks
  blocks_pick true h groups blocks all more = of_both E run.setup.base log_now h.blocks blocks all more
  blocks_pick false h groups blocks all more = all

  -- each has handed on the groups of the log up to its place, and blocks of the run, after the turn too
  pub hears_then : (heard : ℕ → Heard)
      → ((n : ℕ) (b : model.Actor) → get_elem? after n ≡ some b → (a : model.Actor) × (get_elem? actors n ≡ some a))
      → HaveHandedOn E run.setup.base old.log heard actors log_was
      → HaveHandedOn E run.setup.base new.log
      (heard_then heard seat (handed_by (filled t.who t.filling)) (appended_by t.who)) after log_now
  hears_then heard was hears told n b now =
      let a = was n b now in
      let groups : List Given = handed_by (filled t.who t.filling) in
      let blocks : List Block = appended_by t.who in
      let old_told = before told in
      let h = hears old_told n a.0 a.1 in
      record {
        groups = pick (eqb n seat) (heard n) groups blocks
            ∙ ap (λ (l : List Given). l ++ cond (eqb n seat) groups []) h.groups
            ∙ sym (groups_grow log_seen data_seen run old new actors after seat answer step log_laws data_laws same runs t
            told n a.0 b a.1 now);
        blocks = blocks_pick (eqb n seat) (heard n) groups blocks
            (of_grown E run.setup.base log_was log_now runs.running.shared.sn (grows told) (heard n).blocks h.blocks)
            (of_grown E run.setup.base log_was log_now runs.running.shared.sn (grows told) blocks
            (appended old_told t.who t.who_is));
      }
