-- Each turn of any actor, whatever its device calls answer, leaves what a reader knows.
use Rattle.std.proofs.Common.{append-nil, suc, zero, ◌++◌, ◌∷◌, [], Bool, List, ap, arith, cond, false, length, length-append, refl, subst, sym, true, ℕ, ⊎_elim, inl, inr, ◌<◌, ◌∙◌, ◌≡◌, ◌≤◌}
use Rattle.std.specs.Prelude.{slice_index}
use lib.ListN.{get_elem?}
use mathlib.Core.Option.{some, some-injective, some-ne-none}
use Rattle.model_core.proofs.Lsns.{lsn_less}
use Rattle.model_pagecore.specs.{end_lsn}
use Rattle.model_core.proofs.Groups.{stream_long, stream_snoc}
use Rattle.model_core.specs.{Actor, Core, end_of, entry, Entry, flat, index, layout_of, lent, line, lists_left, log_left, lsn, next, OwnServed, phase_log, shared_left, SharedWords, sn_at, stream, Tiles, words_left, DataSide, LogSide, Setup, DataServed}
use Rattle.model_core.specs.States as actor
use Rattle.model_core.specs.Program.{Turn}
use Rattle.model_core.specs.declared.ops.Answer.{Answer}
use Rattle.model_core.specs.declared.ops.Op.{Op}
use Rattle.model_core.specs.declared.ops.Step.{Step}
use Rattle.model_core.specs.declared.steps.UserStep.{UserStep}
use Rattle.model_core.specs.declared.steps.UserStep.TheVariants as user_step
use Rattle.model_core.specs.declared.words.Layout.{Layout}
use Rattle.model_core.specs.declared.words.Word.TheVariants as word
use Rattle.model_logcore.specs.LogFits as marks
use Rattle.model_logcore.specs.LogLaws.{LogLaws}
use Rattle.model_pagecore.specs.DataLaws.{DataLaws}
use Rattle.model_reads.proofs.Lasting.{HasGoneOn}
use Rattle.model_reads.proofs.Rising.{newest_rises}
use Rattle.model_reads.specs.Reading.{newest_in}
use Rattle.model_running.proofs.BothKeep.{BothLeft, keeps_both}
use Rattle.model_running.proofs.EachTurn.{actors_filled, both_filled, filled_at, log_then, served_filled, who_filled}
use Rattle.model_running.proofs.Filling.{is_filled, next_filled}
use Rattle.model_running.proofs.FailedStays.{turn_keeps_failed}
use Rattle.model_running.proofs.FlatWords.{flat_left, flat_read}
use Rattle.model_running.proofs.ReadKeeps.{LogGrows}
use Rattle.model_running.proofs.Turns.{next_words}
use Rattle.model_running.specs.Watermarks.{BothHalves, IsRunning}

same_log : (log : List Entry) (sn : ℕ) → LogGrows log log sn
same_log log sn = record { how = inl refl }

module _ (D : LogSide) (L : LogLaws D) (E : DataSide) (EL : DataLaws E) (c : Setup) (old new : Core D E)
    (seat : ℕ) (answer : Answer) (step : Step) (before : IsRunning D E c old)
    (t : Turn D E old seat answer step new) where
  abbrev m : SharedWords
  m = before.shared

  abbrev a : Actor
  a = who_filled D L E EL c old new seat answer step before t

  abbrev now : List Actor
  now = actors_filled D L E EL c old new seat answer step before t

  both : BothHalves D E c m before.log_ghost before.page_ghost old.lists old.log_part old.data_part now
  both = both_filled D L E EL c old new seat answer step before t

  at : get_elem? now seat ≡ some a
  at = filled_at D L E EL c old new seat answer step before t

  same_op : ◌≡◌ {A = Op} (next a) (next t.who)
  same_op = next_filled t.who t.filling

  abbrev m' : SharedWords
  m' = shared_left m (next a)

  abbrev pub log : List Entry
  log = before.log_ghost.log

  abbrev pub log_now : List Entry
  log_now = log_then D L E EL c old new seat answer step before t

  Left : Type 0
  Left = (actors : List Actor) × BothLeft D E c m' (lists_left old.lists (λ i. slice_index m.lists i) (next a))
      new.log_part new.data_part actors log_now

  left : Left
  unfolding Left
  left = (
    _,
    keeps_both D L E EL c m before.log_ghost before.page_ghost old.lists old.log_part old.data_part now seat both
        t.code new.log_part new.data_part a at (is_filled t.who t.filling t.fills)
        (served_filled D L E EL c old new seat answer step before t)
        (subst (λ (o : Op). DataServed E old.data_part (lent a) o t.code new.data_part) (sym same_op) t.data_served)
        (subst (λ (o : Op). OwnServed o t.code) (sym same_op) t.own_served),
  )

  is_flat : new.words ≡ flat m'
  is_flat =
      let w = next_words D E c m before.log_ghost before.page_ghost old.lists old.log_part old.data_part now seat both a
      at in
      t.words ∙ ap (words_left old.layout old.words) (sym same_op)
      ∙ ap (λ (ws : List ℕ). words_left old.layout ws (next a)) before.flat_is
      ∙ ap (λ (l : Layout). words_left l (flat m) (next a)) before.layout_is
      ∙ flat_left (layout_of c) m both.logged.sized (next a) w

  -- the log grows by the turn's group at most
  grown_by : (b : Actor) → get_elem? now seat ≡ some b → LogGrows log (log_left log m.sn b) m.sn
  grown_by (actor.User u) its = by u.checks
    where
      U : marks.UserFits D c m before.log_ghost old.log_part seat u
      U = both.logged.each seat (actor.User u) its

      phase : (f : UserStep) → marks.UserAt D c m before.log_ghost old.log_part seat u f
          → LogGrows log (phase_log log m.sn u f) m.sn
      phase user_step.Reserve k = record { how = inr (entry u.user u.k m.sn (line u), refl, refl, (U.sound u.k k.1).0) }
      phase user_step.LoadCheckpoint k = same_log log m.sn
      phase _ k = same_log log m.sn

      by : (b : Bool) → LogGrows log (cond b log (phase_log log m.sn u u.step)) m.sn
      by true = same_log log m.sn
      by false = phase u.step U.step
  grown_by (actor.Writer s) its = same_log log m.sn
  grown_by (actor.Flusher s) its = same_log log m.sn
  grown_by (actor.Closer s) its = same_log log m.sn
  grown_by (actor.Cleaner s) its = same_log log m.sn
  grown_by (actor.Checkpointer s) its = same_log log m.sn
  grown_by (actor.Reader s) its = same_log log m.sn

  sn_was : m.sn ≡ slice_index old.words sn_at
  sn_was = sym (ap (λ (ws : List ℕ). slice_index ws sn_at) before.flat_is)

  grows : LogGrows log log_now m.sn
  grows = grown_by a at

  longer : length (stream log) ≤ length (stream log_now)
  longer = ⊎_elim (λ same. let e = ap (λ (l : List Entry). length (stream l)) same in omega arith)
      (λ more. let e = ap (λ (l : List Entry). length (stream l)) more.1 ∙ ap length (stream_snoc log more.0)
      ∙ length-append (stream log) more.0.bytes in omega arith) grows.how

  more_sn : slice_index old.words sn_at ≤ slice_index new.words sn_at
  unfolding Left
  more_sn =
      let k = left.1 in
      let first = stream_long log c.base m.sn both.logged.global.tiled.tiles in
      let last = stream_long log_now c.base m'.sn
      (subst (λ (l : List Entry). Tiles c.base l m'.sn) k.log_is k.both.logged.global.tiled.tiles) in
      let was = sn_was in
      let is = ap (λ (ws : List ℕ). slice_index ws sn_at) is_flat in
      let up = longer in
      omega arith

  rises : (q : ℕ) → q < c.pages → newest_in c old.words q ≤ newest_in c new.words q
  unfolding Left
  rises q there =
      let k = left.1 in
      let was = ap (λ (ws : List ℕ). slice_index ws (index (layout_of c) (word.Newest q))) before.flat_is
      ∙ flat_read (layout_of c) m both.logged.sized (word.Newest q) there in
      let is = ap (λ (ws : List ℕ). slice_index ws (index (layout_of c) (word.Newest q))) is_flat
      ∙ flat_read (layout_of c) m' k.both.logged.sized (word.Newest q) there in
      let up = newest_rises D E c m before.log_ghost before.page_ghost old.lists old.log_part old.data_part now seat
      both a at q in
      omega arith

  -- the groups that the turn adds, one at most
  Added : Type 0
  Added = (rest : List Entry) × ◌≡◌ {A = List Entry} log_now (log ++ rest)
      × ((i : ℕ) (e : Entry) → get_elem? rest i ≡ some e → lsn m.sn < end_lsn e)

  added : Added
  unfolding Added
  added = ⊎_elim
      (λ same. ([], same ∙ sym (append-nil log), (λ i e is. absurd (some-ne-none e (sym is)))))
      (λ more. (more.0 ∷ [], more.1, (λ i e is. only more.0 more.2 more.3 i e is)))
      grows.how
    where
      only : (x : Entry) → x.start ≡ m.sn → 0 < length x.bytes → (i : ℕ) (e : Entry) → get_elem? (x ∷ []) i ≡ some e
          → lsn m.sn < end_lsn e
      only x start long zero e is = subst (λ (z : Entry). lsn m.sn < end_lsn z) (some-injective x e is)
          (lsn_less m.sn (end_of x) (omega arith))
      only x start long (suc i) e is = absurd (some-ne-none e (sym is))

  -- THE RUN GOES ON by the turn, for whoever reads
  pub turn_goes_on : HasGoneOn c old.words new.words log log_now
  unfolding Added
  turn_goes_on = record {
    more_sn = more_sn;
    rises = rises;
    fails = turn_keeps_failed D E c old new seat answer step before t;
    rest = added.0;
    grown = added.1;
    late = λ i e is. subst (λ (n : ℕ). lsn n < end_lsn e) sn_was (added.2 i e is);
  }
