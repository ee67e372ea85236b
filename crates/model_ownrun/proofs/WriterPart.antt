-- The writer's part of a user's errand: each Op leads to the next one of it, or to the flusher's part.
use Rattle.std.proofs.Common.{Bool, List, ap, arith, cond, eqb, eqb-true, false, length, refl, set, subst, sym, true, ℕ, ◌+◌, ◌*◌, ◌∙◌, ◌≡◌}
use Rattle.std.proofs.lemmas.Bool.{eqb-false}
use Rattle.std.specs.Prelude.{nat_lt}
use Rattle.model_core.specs.{writer_holds_tail, Actor, advance_next, Blocks, DataServed, ends, finds_no_more, FlusherState, has_log_space, has_whole_word, left_in_word, Lent, Listed, LogServed, lsn, old_of, read_place, shared_left, SharedWords, stands_outside, word_end, writer_holds, writer_op, writer_took, WriterState, DataSide, LogSide, Setup}
use lib.ListN.{get_elem?}
use mathlib.Core.Option.{some}
use Rattle.model_core.proofs.Lists.{set_again}
use Rattle.model_core.specs.declared.ops.Answer.{Answer}
use Rattle.model_core.specs.declared.ops.Op.{Op}
use Rattle.model_core.specs.declared.steps.AdvanceStep.{AdvanceStep}
use Rattle.model_core.specs.declared.steps.FlusherStep.{FlusherStep}
use Rattle.model_core.specs.declared.steps.WriterStep.{WriterStep}
use Rattle.model_core.specs.declared.steps.AdvanceStep.TheVariants as advance_step
use Rattle.model_core.specs.declared.steps.FlusherStep.TheVariants as flusher_step
use Rattle.model_core.specs.declared.steps.WriterStep.TheVariants as writer_step
use Rattle.model_core.specs.declared.words.LinkBuffer.TheVariants as link_buffer
use Rattle.model_core.specs.States as actor
use Rattle.model_logcore.proofs.DeviceSteps.{can_write}
use Rattle.model_logcore.specs.{WriterAt, WriterFits}
use Rattle.model_logcore.specs.LogLaws.{AfterWrite, LogLaws}
use Rattle.model_log.specs.declared.layout.TheConstants.{BLOCK_DATA}
use Rattle.model_own.specs.{all_actors, given_back, LogWork, OwnUser, after_writer, flushes_at, rested_writer, taken_up, written, MayHelpAt}
use Rattle.model_own.specs.declared.errand.ErrandStep.{ErrandStep}
use Rattle.model_own.specs.declared.errand.ErrandStep.TheVariants as errand_step
use Rattle.model_ownrun.proofs.ActorSteps.{user_fails, writer_goes_on}
use Rattle.model_ownrun.proofs.Moves.{advance_keeps, answer_to, device_is, flusher_gives, flusher_goes_on, flusher_has, flusher_takes, HoldsNoTail, lists_after, none_at_rest, Runs, RunsAfter, user_moves, writer_gives, writer_has, writer_rests, writer_takes}
use Rattle.model_ownrun.proofs.Seats.{writer_seat, writer_there}
use Rattle.model_ownrun.proofs.UserAlike.{again_same}
use Rattle.model_ownrun.proofs.WriterStates.{with_cleared, with_room, with_word, with_write}
use Rattle.model_own.specs.ErrandFits.{ErrandFits}
use Rattle.model_ownrun.specs.OwnRunning.{FlushesAt, IsFlusherAtRest, WorkFits, WritesAt}
use Rattle.model_pagecore.specs.DataLaws.{DataLaws}

none_looking : HoldsNoTail writer_step.LoadCheckpoint
none_looking link_buffer.Written = refl
none_looking link_buffer.Closed = refl

module _ (D : LogSide) (L : LogLaws D) (E : DataSide) (EL : DataLaws E) (c : Setup) (users : List OwnUser)
    (others : List Actor) (i : ℕ) (o : OwnUser) (at : get_elem? users i ≡ some o) where
  -- what a step of the user's errand leaves
  abbrev pub Leaves : SharedWords → (ℕ → List Listed) → D.Part → E.Part → OwnUser × LogWork → Type 0
  Leaves m ls p d x = Runs D E c m ls p d (all_actors (set users i x.0) x.1 others)
      × ErrandFits x.0.user x.0.errand
      × WorkFits D p x.0.errand x.1

  -- the store with the log's work so
  abbrev With : SharedWords → (ℕ → List Listed) → D.Part → E.Part → LogWork → Type 0
  With m ls p d k = Runs D E c m ls p d (all_actors users k others)

  -- the user is as it was but for its errand
  pub goes_to : (m : SharedWords) (ls : ℕ → List Listed) (p : D.Part) (d : E.Part) (k : LogWork) → With m ls p d k
      → MayHelpAt o.user.step → (errand : ErrandStep) (helped : Bool)
      → Runs D E c m ls p d
      (all_actors (set users i (record { user = o.user; errand = errand; helped = helped })) k others)
  goes_to m ls p d k runs may errand helped = user_moves D E c m ls p d users k others i o at o.user.code
      o.user.checks o.user.step (again_same o.user.step may) errand helped runs

  module _ (may : MayHelpAt o.user.step) (asks : o.user.checks ≡ false) where
    module _ (m : SharedWords) (ls : ℕ → List Listed) (p : D.Part) (d : E.Part) (k : LogWork)
        (runs : With m ls p d k) where
      abbrev Stands : WriterState → WriterStep → Type 0
      Stands s st = WriterAt D c m runs.0 p (writer_seat users) s st

      fits_now : WriterFits D c m runs.0 p (writer_seat users) k.writer
      fits_now = runs.2.logged.each (writer_seat users) (actor.Writer k.writer) (writer_there users k others)

      -- it has read all up to its tail, and so has the log part to write
      writes : k.writer.step ≡ writer_step.TakeDevice → k.writer.checks ≡ false
          → k.flusher.step ≡ flusher_step.GiveDevice
          → k.flusher.checks ≡ false → D.failed p ≡ false
          → With m ls p d
          (record {
            writer = record k.writer { step = writer_step.WriteTo };
            flusher =
                record k.flusher { step = flusher_step.LoadWrite };
          })
      writes is quiet has still sound =
          let one : m.device ≡ 1 = flusher_has D E c m ls p d users k others runs.0 runs.1 runs.2 has in
          let free : SharedWords = record m { device = 0 } in
          let k1 : LogWork = given_back k in
          let r1 = flusher_gives D E c m ls p d users k others runs.0 runs.1 runs.2 has still in
          let k2 : LogWork = record k1 { writer = record k.writer { checks = false; step = writer_step.WriteTo } } in
          let r2 = writer_takes D E c free ls p d users k1 others r1.0 r1.1 r1.2 refl is sound in
          let r3 : With m ls p d k2 = subst (λ (x : SharedWords). With x ls p d k2) (device_is m 1 one) r2 in
          let work : Bool
          → LogWork = λ b. record k1 { writer = record k.writer { checks = b; step = writer_step.WriteTo } } in
          subst (λ (b : Bool). With m ls p d (work b)) (sym quiet) r3

      -- the flusher then, and whether it syncs
      abbrev flusher_then : Bool → FlusherState
      flusher_then b = cond b (record k.flusher { write = k.writer.write; checks = false; step = flusher_step.Sync })
          (record k.flusher { checks = false; step = flusher_step.GiveDevice })

      abbrev syncs : Bool
      syncs = cond (flushes_at o.user o.user.step) (nat_lt k.flusher.last k.writer.write) false

      -- the writer's part is over, and the flusher has the log part
      to_flush : k.writer.step ≡ writer_step.Advance advance_step.LoadTail → k.writer.checks ≡ false
          → k.flusher.step ≡ flusher_step.GiveDevice → D.failed p ≡ false
          → Leaves m ls p d (record o { errand = errand_step.Flush }, record k { flusher = flusher_then syncs })
      to_flush rests quiet is sound = (
        goes_to m ls p d (record k { flusher = flusher_then syncs }) on may errand_step.Flush o.helped,
        (may, asks),
        record { writer_goes_on = quiet; flusher_goes_on = goes syncs; step = (rests, stands syncs) },
      )
        where
          on : With m ls p d (record k { flusher = flusher_then syncs })
          on = let up = fits_now.write in
              flusher_goes_on D E c m ls p d users k others runs.0 runs.1 runs.2 (flushes_at o.user o.user.step)
              k.writer.write is (omega arith) sound

          goes : (b : Bool) → (flusher_then b).checks ≡ false
          goes true = refl
          goes false = refl

          stands : (b : Bool) → FlushesAt D p (flusher_then b).step
          stands true = tt
          stands false = tt

    module _ (m : SharedWords) (ls : ℕ → List Listed) (p : D.Part) (d : E.Part) (k : LogWork)
        (runs : With m ls p d k) where
      -- the writer would wait, and so its part is over
      would_wait : HoldsNoTail k.writer.step → writer_holds k.writer.step ≡ false
          → Stands m ls p d k runs (rested_writer k.writer) (writer_step.Advance advance_step.LoadTail)
          → k.flusher.step ≡ flusher_step.GiveDevice → D.failed p ≡ false → Leaves m ls p d (written o k k.writer)
      would_wait no_tail free stands has sound =
          let rests = writer_rests D E c m ls p d users k others runs.0 runs.1 runs.2 no_tail free stands in
          to_flush m ls p d (record k { writer = rested_writer k.writer }) rests refl refl has sound

      -- it finds nothing new
      nothing_more : k.writer.step ≡ writer_step.Advance advance_step.LoadTail
          → k.flusher.step ≡ flusher_step.GiveDevice
          → D.failed p ≡ false → Leaves m ls p d (written o k k.writer)
      nothing_more is has sound =
          let stands = subst (Stands m ls p d k runs k.writer) is (fits_now m ls p d k runs).step in
          would_wait (λ b. ap (writer_holds_tail b) is ∙ none_at_rest b) (ap writer_holds is) stands has sound

      -- it has stored WRITE, and so its part is over
      has_written : k.writer.step ≡ writer_step.GiveDevice → k.flusher.step ≡ flusher_step.LoadWrite
          → D.failed p ≡ false
          → Leaves m ls p d (written o k k.writer)
      has_written is has sound =
          let one : m.device ≡ 1 = writer_has D E c m ls p d users k others runs.0 runs.1 runs.2
          (ap writer_holds is) in
          let free : SharedWords = record m { device = 0 } in
          let k1 : LogWork = record k { writer = rested_writer k.writer } in
          let r1 = writer_gives D E c m ls p d users k others runs.0 runs.1 runs.2 is in
          let k2 : LogWork = taken_up k1 in
          let r2 = flusher_takes D E c free ls p d users k1 others r1.0 r1.1 r1.2 refl in
          let r3 : With m ls p d k2 = subst (λ (x : SharedWords). With x ls p d k2) (device_is m 1 one) r2 in
          to_flush m ls p d k2 r3 refl refl refl sound

    module _ (on : o.errand ≡ errand_step.Write) (m : SharedWords) (ls : ℕ → List Listed) (p : D.Part) (d : E.Part)
        (k : LogWork) (runs : With m ls p d k) (quiet : k.writer.checks ≡ false) (still : k.flusher.checks ≡ false)
        (code : ℕ) (q : D.Part) (e : E.Part) where
      -- its part goes on
      stays : (m' : SharedWords) (ls' : ℕ → List Listed) (k' : LogWork) → With m' ls' q e k' → k'.writer.checks ≡ false
          → k'.flusher.checks ≡ false → WritesAt D q k'.writer.step k'.flusher.step → Leaves m' ls' q e (o, k')
      stays m' ls' k' r quiet' still' at' = (
        subst (λ (l : List OwnUser). Runs D E c m' ls' q e (all_actors l k' others))
            (sym (set_again users i o at)) r,
        subst (λ (x : ErrandStep). ErrandFits o.user x) (sym on) (may, asks),
        subst (λ (x : ErrandStep). WorkFits D q x k') (sym on)
            (record { writer_goes_on = quiet'; flusher_goes_on = still'; step = at' }),
      )

      abbrev asked : WriterStep → Op
      asked st = writer_op k.writer st

      abbrev told : WriterStep → Answer
      told st = answer_to D p code q m ls (writer_op k.writer st)

      abbrev next : WriterStep → WriterState
      next st = writer_took k.writer (told st) st

      abbrev After : WriterStep → WriterState → Type 0
      After st s = RunsAfter D E c (asked st) m ls q e (all_actors users (record k { writer = s }) others)

      abbrev Left : WriterStep → OwnUser × LogWork → Type 0
      Left st x = Leaves (shared_left m (asked st)) (lists_after m ls (asked st)) q e x

      abbrev lends : Lent
      lends = Blocks k.writer.kept k.writer.firsts

      sound_in : ◌≡◌ {A = D.Part} q p → D.failed p ≡ false → D.failed q ≡ false
      sound_in v z = ap D.failed v ∙ z

      -- as the turn of the writer
      turned : (st : WriterStep) → k.writer.step ≡ st → LogServed D p lends (asked st) code q
          → DataServed E d lends (asked st) code e → After st (next st)
      turned st is = subst
          (λ (t : WriterStep). LogServed D p lends (asked t) code q → DataServed E d lends (asked t) code e
          → After t (next t))
          is (λ v w. writer_goes_on D L E EL c m ls p d users k others runs quiet code q e v w)

      fits : WriterFits D c m runs.0 p (writer_seat users) k.writer
      fits = fits_now m ls p d k runs

      stands : (st : WriterStep) → k.writer.step ≡ st → Stands m ls p d k runs k.writer st
      stands st is = subst (Stands m ls p d k runs k.writer) is fits.step

      abbrev went : WriterState → OwnUser × LogWork
      went s = after_writer o k s s.step

      abbrev Goes : WriterStep → Type 0
      Goes st = Left st (went (next st))

      -- an advance goes on, or ends, with something new or nothing
      abbrev advanced : AdvanceStep → Bool → Bool → WriterStep
      advanced v none ended = cond none (writer_step.Advance advance_step.LoadTail)
          (cond ended writer_step.LoadCheckpoint (writer_step.Advance v))

      advances : (v : AdvanceStep) (none ended : Bool) → k.flusher.step ≡ flusher_step.GiveDevice → D.failed q ≡ false
          → (s : WriterState) → s.checks ≡ none → s.step ≡ advanced v none ended
          → (m' : SharedWords) (ls' : ℕ → List Listed) → With m' ls' q e (record k { writer = s })
          → Leaves m' ls' q e (after_writer o k s (advanced v none ended))
      advances v true ended has sound s asks' is m' ls' r =
          subst (λ (b : Bool). Leaves m' ls' q e (cond b (written o k s) (o, record k { writer = s }))) (sym asks')
          (nothing_more m' ls' q e (record k { writer = s }) r is has sound)
      advances v false true has sound s asks' is m' ls' r =
          let at' = subst (λ (t : WriterStep). WritesAt D q t k.flusher.step) (sym is) (has, sound) in
          subst (λ (b : Bool). Leaves m' ls' q e (cond b (written o k s) (o, record k { writer = s }))) (sym asks')
          (stays m' ls' (record k { writer = s }) r asks' still at')
      advances v false false has sound s asks' is m' ls' r =
          let at' = subst (λ (t : WriterStep). WritesAt D q t k.flusher.step) (sym is) (has, sound) in
          subst (λ (b : Bool). Leaves m' ls' q e (cond b (written o k s) (o, record k { writer = s }))) (sym asks')
          (stays m' ls' (record k { writer = s }) r asks' still at')

      -- it has read all up to its tail
      reads : (st : WriterStep) (s : WriterState) → k.flusher.step ≡ flusher_step.GiveDevice → D.failed q ≡ false
          → s.checks ≡ false → s.step ≡ writer_step.TakeDevice → After st s
          → Left st (
            o,
            record {
              writer = record s { step = writer_step.WriteTo };
              flusher =
                  record k.flusher { step = flusher_step.LoadWrite };
            },
          )
      reads st s has sound quiet' is r =
          let m' : SharedWords = shared_left m (asked st) in
          let ls' : ℕ → List Listed = lists_after m ls (asked st) in
          let k' : LogWork =
          record {
            writer = record s { step = writer_step.WriteTo };
            flusher =
                record k.flusher { step = flusher_step.LoadWrite };
          } in
          stays m' ls' k' (writes m' ls' q e (record k { writer = s }) r is quiet' has still sound) quiet' still
          (refl, sound)

      abbrev loaded : Bool → WriterState
      loaded b = with_word k.writer (old_of (told writer_step.LoadCell)) b

      pub write_by : (st : WriterStep) → k.writer.step ≡ st → WritesAt D p st k.flusher.step
          → LogServed D p lends (asked st) code q → DataServed E d lends (asked st) code e → Goes st
      write_by (writer_step.Advance v) is w served stored =
          let st : WriterStep = writer_step.Advance v in
          let n : ℕ = old_of (told st) in
          let sound = sound_in (advance_keeps D p q lends code link_buffer.Written k.writer.advance v served) w.1 in
          advances (advance_next k.writer.advance n v) (finds_no_more k.writer n v) (ends k.writer.advance n v)
          w.0 sound (next st) refl refl (shared_left m (asked st)) (lists_after m ls (asked st))
          (turned st is served stored)
      write_by writer_step.LoadCheckpoint is w served stored =
          by (has_log_space k.writer m.ckpt) (stands_outside k.writer)
          (turned writer_step.LoadCheckpoint is served stored)
        where
          by : (b b2 : Bool) → After writer_step.LoadCheckpoint (with_room k.writer m.ckpt b b2)
              → Left writer_step.LoadCheckpoint (went (with_room k.writer m.ckpt b b2))
          by true true r = stays m ls (record k { writer = with_room k.writer m.ckpt true true }) r quiet still
              (w.0, sound_in served w.1)
          by true false r = stays m ls (record k { writer = with_room k.writer m.ckpt true false }) r quiet still
              (w.0, sound_in served w.1)
          by false b2 r =
              let k1 : LogWork = record k { writer = with_room k.writer m.ckpt false b2 } in
              let z : Stands m ls q e k1 r k1.writer writer_step.LoadCheckpoint = (fits_now m ls q e k1 r).step in
              would_wait m ls q e k1 r none_looking refl ((z.1, z.0.1), tt) w.0 (sound_in served w.1)
      write_by writer_step.LoadFirst is w served stored =
          stays m ls _ (turned writer_step.LoadFirst is served stored) quiet still (w.0, sound_in served w.1)
      write_by writer_step.ClearFirst is w served stored =
          stays _ ls _ (turned writer_step.ClearFirst is served stored) quiet still (w.0, sound_in served w.1)
      write_by writer_step.LoadCell is w served stored =
          by (has_whole_word k.writer) (turned writer_step.LoadCell is served stored)
        where
          by : (b : Bool) → After writer_step.LoadCell (loaded b) → Left writer_step.LoadCell (went (loaded b))
          by true r = stays m ls _ r quiet still (w.0, sound_in served w.1)
          by false r = reads writer_step.LoadCell _ w.0 (sound_in served w.1) quiet refl r
      write_by writer_step.ClearCell is w served stored =
          by (eqb (lsn (word_end k.writer)) k.writer.tail)
          (eqb (length k.writer.kept + left_in_word (read_place k.writer)) (BLOCK_DATA * length k.writer.firsts))
          (turned writer_step.ClearCell is served stored)
        where
          by : (b b2 : Bool) → After writer_step.ClearCell (with_cleared k.writer b b2)
              → Left writer_step.ClearCell (went (with_cleared k.writer b b2))
          by true b2 r = reads writer_step.ClearCell (with_cleared k.writer true b2) w.0 (sound_in served w.1) quiet
              refl r
          by false true r = stays _ ls _ r quiet still (w.0, sound_in served w.1)
          by false false r = stays _ ls _ r quiet still (w.0, sound_in served w.1)
      write_by writer_step.WriteTo is w served stored =
          by (eqb code 0) refl (turned writer_step.WriteTo is served stored)
        where
          left : AfterWrite D c.blocks c.base runs.0.log (lsn runs.0.target) code p q
          left =
              let can = can_write D L c m runs.0 p (all_actors users k others) (writer_seat users) k.writer
              runs.2.logged (writer_there users k others) (stands writer_step.WriteTo is) in
              let wrote = subst (λ (t : ℕ). D.Wrote t k.writer.kept k.writer.firsts code p q) fits.tail served in
              L.writes c.blocks c.base runs.0.log runs.0.write runs.0.target code k.writer.kept k.writer.firsts p q
              runs.2.logged.global.part.holds can wrote

          by : (b : Bool) → eqb code 0 ≡ b → With m ls q e (record k { writer = with_write k.writer code b })
              → Leaves m ls q e (went (with_write k.writer code b))
          by true z r = stays m ls _ r quiet still (w.0, left.sound (eqb-true code 0 z))
          by false z r = stays m ls _ r quiet still
              (w.0, L.broken q code (left.cause (let n = eqb-false code 0 z in omega arith)))
      write_by writer_step.StoreWrite is w served stored =
          has_written _ ls q e (record k { writer = next writer_step.StoreWrite })
          (turned writer_step.StoreWrite is served stored) refl w.0 (sound_in served w.1)
      write_by writer_step.StoreFailed is w served stored =
          stays _ ls _ (turned writer_step.StoreFailed is served stored) quiet still (w.0, ap D.failed served ∙ w.1)
      write_by writer_step.GiveFailed is w served stored =
          let s : WriterState = next writer_step.GiveFailed in
          let k1 : LogWork = record k { writer = s } in (
            user_fails D L E EL c (record m { device = 0 }) ls q e users k1 others
                (turned writer_step.GiveFailed is served stored) i o at may (stands writer_step.GiveFailed is) s.code,
            tt,
            record {
              writer_goes_on = quiet;
              flusher_goes_on = still;
              step = (ap D.failed served ∙ w.1, subst (λ (t : FlusherStep). IsFlusherAtRest D q t) (sym w.0) tt);
            },
          )
      write_by writer_step.TakeDevice is w served stored = absurd w
      write_by writer_step.GiveBroken is w served stored = absurd w
      write_by writer_step.GiveDevice is w served stored = absurd w
      write_by writer_step.Failed is w served stored = absurd w
