-- Through each turn the archive archives the groups of the log so far.
use Rattle.std.proofs.Common.{Bool, List, [], ap, append-nil, arith, inl, inr, refl, subst, sym, ⊎_elim, ℕ, ◌++◌, ◌+◌, ◌∙◌, ◌∷◌, ◌≡◌, ◌≤◌, ◌⊎◌}
use lib.ListN.{get_elem?}
use native.Mathlib.Decide.{dec_le}
use mathlib.Core.Option.{some, some-injective}
use Rattle.model_base.specs.{HasRisen}
use Rattle.model_core.specs.States as model
use Rattle.model_core.specs.{DataSide, LogSide, Entry, filled, log_left, lsn, next, ReaderState}
use Rattle.model_core.specs.Program.{Turn}
use Rattle.model_core.specs.declared.ops.Answer.{Answer}
use Rattle.model_core.specs.declared.ops.Step.{Step}
use Rattle.model_log.specs.{IsRunOf}
use Rattle.model_log.specs.declared.group.Whole.{Whole}
use Rattle.model_logcore.specs.LogLaws.{LogLaws}
use Rattle.model_page.specs.declared.content.Content.{Content}
use Rattle.model_pagecore.specs.DataLaws.{DataLaws}
use Rattle.model_running.proofs.EachTurn.{actors_filled, both_filled, filled_at, who_filled}
use Rattle.model_running.proofs.Groups.{run_of_log}
use Rattle.model_running.proofs.ReadKeeps.{LogGrows}
use Rattle.model_running.proofs.RunBlocks.{grown}
use Rattle.model_running.specs.{IsNoAppend}
use Rattle.model_running.specs.Histories.{AreWholesOf}
use Rattle.model_running.specs.ReadHalf.{HasRunBlock, RunBlockAt}
use Rattle.redo_archive.specs.Part.{Part, PartArchives}
use Rattle.redo_archiver.proofs.Longer.{part-longer}
use Rattle.redo_archiver.specs.{IsFullBlock, KeepsPace}
use Rattle.redo_disk.specs.{Call, Seen}
use Rattle.redo_drive.proofs.ArchiveTurns.{flushed_in, one_reader, stands, step_appends, who_appends}
use Rattle.redo_drive.proofs.CallsOn.{calls_then}
use Rattle.redo_drive.proofs.TurnsOf.{runs_then, told_earlier}
use Rattle.redo_drive.specs.Archiving.{Appends, HasCome, IsSameArchive}
use Rattle.redo_drive.specs.Lists.{lists_of}
use Rattle.redo_drive.specs.Running.{HasSamePages, RunOf, run_data_side, run_log_side, RunsWith, core_of}
use Rattle.redo_drive.specs.declared.parts.Parts.{Parts}

-- a count that has risen since a later time has risen
pub risen_since : (first mid last : ℕ) → first ≤ mid → mid ≤ last → HasRisen mid last → HasRisen first last
risen_since first mid last low high risen = ⊎_elim (λ more. inl (omega arith))
    (λ full. elim (dec_le (first + 1) last) [ yes less ↦ inl (omega arith) | no same ↦ inr (omega arith) ]) risen

-- the groups of a log, and those of its front
pub record Front (log : List Entry) (wholes : List Whole) : Type 0 where
  pub early : List Whole
  pub more : List Whole
  pub are : wholes ≡ early ++ more
  pub of_log : AreWholesOf log early

pub front_of : (xs ys : List Entry) (wholes : List Whole) → AreWholesOf (xs ++ ys) wholes → Front xs wholes
front_of [] ys wholes are = record { early = []; more = wholes; are = refl; of_log = tt }
front_of (x ∷ xs) ys [] are = absurd are
front_of (x ∷ xs) ys (w ∷ ws) are = let rest = front_of xs ys ws are.1 in record {
  early = w ∷ rest.early;
  more = rest.more;
  are = ap (λ (l : List Whole). w ∷ l) rest.are;
  of_log = (are.0, rest.of_log);
}

grown_front : (log log' : List Entry) (sn : ℕ) → LogGrows log log' sn → (wholes : List Whole) → AreWholesOf log' wholes
    → Front log wholes
grown_front log log' sn grows wholes are = ⊎_elim
    (λ same. front_of log [] wholes (subst (λ (l : List Entry). AreWholesOf l wholes) (same ∙ sym (append-nil log)) are))
    (λ more. front_of log (more.0 ∷ []) wholes (subst (λ (l : List Entry). AreWholesOf l wholes) more.1 are))
    grows.how

module _ {L D A : Type 0} {archive : Bool} (log_seen : L → Seen) (data_seen : D → Seen) (arch_seen : A → Seen) (run : RunOf L D)
    (old new : Parts L D)
    (actors after : List model.Actor) (seat : ℕ) (answer : Answer) (step : Step)
    (log_laws : LogLaws (run_log_side log_seen data_seen run))
    (data_laws : DataLaws (run_data_side log_seen data_seen run)) (same : HasSamePages old new)
    (R : RunsWith log_seen data_seen run archive old actors)
    (t : Turn (run_log_side log_seen data_seen run) (run_data_side log_seen data_seen run)
    (core_of log_seen data_seen run old actors) seat answer step (core_of log_seen data_seen run new after)) where
  abbrev E : LogSide
  E = run_log_side log_seen data_seen run

  abbrev F : DataSide
  F = run_data_side log_seen data_seen run

  abbrev then : RunsWith log_seen data_seen run archive new after
  then = (runs_then log_seen data_seen run old new actors after seat answer step log_laws data_laws same R t).runs

  abbrev log_now : List Entry
  log_now = then.running.log_ghost.log

  abbrev log_was : List Entry
  log_was = R.running.log_ghost.log

  log_is : ◌≡◌ {A = List Entry} log_now (log_left log_was R.running.shared.sn (filled t.who t.filling))
  log_is = (runs_then log_seen data_seen run old new actors after seat answer step log_laws data_laws same R t).log_is

  grows : E.Tells new.log → E.Tells old.log → LogGrows log_was log_now R.running.shared.sn
  grows told before =
      let W = R.running in
      let c_old = core_of log_seen data_seen run old actors in
      let c_new = core_of log_seen data_seen run new after in
      subst (λ (l : List Entry). LogGrows log_was l W.shared.sn) (sym log_is)
      (grown E log_laws F data_laws run.setup W.shared W.log_ghost W.page_ghost (lists_of old.lists) old.log old.store
      (actors_filled E log_laws F data_laws run.setup c_old c_new seat answer step W t) seat
      (both_filled E log_laws F data_laws run.setup c_old c_new seat answer step W t) t.code new.log told before
      (who_filled E log_laws F data_laws run.setup c_old c_new seat answer step W t)
      (filled_at E log_laws F data_laws run.setup c_old c_new seat answer step W t))

  -- the groups are a run
  run_now : (wholes : List Whole) → AreWholesOf log_now wholes → IsRunOf (lsn run.setup.base) wholes
  run_now wholes are = run_of_log log_now run.setup.base then.running.shared.sn wholes
      then.running.both.logged.global.tiled.tiles are

  module _ {arch_gives : A → Call → A → Type 0} (before part later : Part A)
      (C : HasCome log_seen data_seen arch_seen arch_gives run old actors R before part)
      (served : ((r : ReaderState) × (t.who ≡ model.Reader r) × Appends arch_seen arch_gives r part answer later)
      ⊎ (IsNoAppend (next t.who) × (later ≡ part))) where
    still_same : IsSameArchive arch_seen arch_gives before later
    still_same = ⊎_elim
        (λ z. let a = z.2.appended in let s = C.same in record {
          shape = a.shape ∙ s.shape;
          start = a.start ∙ s.start;
          size = a.size ∙ s.size;
          later = (let x = a.later in let y = s.later in omega arith);
          risen = λ is. risen_since (arch_seen before.dev).faults (arch_seen part.dev).faults (arch_seen later.dev).faults
              s.later a.later (a.risen is);
          calls = calls_then arch_gives before.dev part.dev later.dev before.failed part.failed later.failed s.calls z.2.calls;
        })
        (λ z. subst (IsSameArchive arch_seen arch_gives before) (sym z.1) C.same) served

    module _ (told : E.Tells new.log) (pages : List Content) (begun : PartArchives arch_seen pages [] before)
        (wholes : List Whole) (are : AreWholesOf log_now wholes) where
      told_before : E.Tells old.log
      told_before = told_earlier log_seen data_seen run old new actors after seat answer step log_laws data_laws same R t told

      of_run : (p : Part A) → p.start ≡ lsn run.setup.base → (l : List Whole) → wholes ≡ l → IsRunOf p.start l
      of_run p start l is = subst (λ (s : ℕ). IsRunOf s l) (sym start) (subst (IsRunOf (lsn run.setup.base)) is (run_now wholes are))

      -- a turn that appends nothing
      grown_on : PartArchives arch_seen pages wholes part
      grown_on =
          let f = grown_front log_was log_now R.running.shared.sn (grows told told_before) wholes are in
          subst (λ (l : List Whole). PartArchives arch_seen pages l part) (sym f.are)
          (part-longer arch_seen pages f.early f.more part (of_run part C.beside.start (f.early ++ f.more) f.are)
          (C.archives told_before pages begun f.early f.of_log))

      -- an append
      appended_on : (r : ReaderState) → t.who ≡ model.Reader r → Appends arch_seen arch_gives r part answer later
          → PartArchives arch_seen pages wholes later
      appended_on r is appends =
          let at : get_elem? actors seat ≡ some (model.Reader r) = t.who_is ∙ ap some is in
          let kind = who_appends run.setup r (R.running.both.in_run seat (model.Reader r) at) appends.mark appends.asks in
          let S = C.beside in
          let here = S.only seat r at kind in
          let mine : ◌≡◌ {A = ReaderState} S.archiver r = one_reader S.archiver r
          (some-injective (model.Reader S.archiver) (model.Reader r) (sym S.at ∙ ap (get_elem? actors) (sym here) ∙ at)) in
          let pace = subst (λ (x : ReaderState). KeepsPace arch_seen S.limit
          (flushed_in log_seen data_seen run old actors R) x part) mine S.pace in
          let step_is = step_appends r appends.mark appends.asks in
          let k : HasRunBlock E run.setup log_was r =
          subst (RunBlockAt E run.setup log_was r) step_is (R.running.both.blocks told_before seat r at kind) in
          let split : ◌≡◌ {A = List Entry} log_now (k.early ++ k.late) =
          log_is ∙ ap (λ (a : model.Actor). log_left log_was R.running.shared.sn (filled a t.filling)) is ∙ k.grown in
          let f = front_of k.early k.late wholes (subst (λ (l : List Entry). AreWholesOf l wholes) split are) in
          let found = k.block f.early f.of_log in
          let full : IsFullBlock part.start f.early r.place r.block =
          subst (λ (s : ℕ). IsFullBlock s f.early r.place r.block) (sym S.start)
          (record { m = found.0; boundary = found.1; enough = found.2.full; block = found.2.block }) in
          subst (λ (l : List Whole). PartArchives arch_seen pages l later) (sym f.are)
          (appends.archives S.limit (flushed_in log_seen data_seen run old actors R) pages f.early f.more pace
          (of_run part S.start (f.early ++ f.more) f.are) full
          (subst (λ (l : List Whole). PartArchives arch_seen pages l part) f.are grown_on))

      archives_on : PartArchives arch_seen pages wholes later
      archives_on = ⊎_elim (λ z. appended_on z.0 z.1 z.2)
          (λ z. subst (λ (p : Part A). PartArchives arch_seen pages wholes p) (sym z.1) grown_on) served

    -- THE ARCHIVE GOES ON with the run.
    pub comes_on : HasCome log_seen data_seen arch_seen arch_gives run new after then before later
    comes_on = record {
      beside = stands log_seen data_seen run old new actors after seat answer step log_laws data_laws same R t arch_seen
          part later C.beside served;
      same = still_same;
      archives = archives_on;
    }
