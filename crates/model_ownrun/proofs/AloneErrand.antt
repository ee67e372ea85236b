-- The errand of a user that is alone: it finds the log part free, and brings WRITE, and FLUSHED where it is to, up to
-- all groups that are linked.
use Rattle.std.proofs.Common.{Bool, List, [], ap, arith, cond, eq-eqb, eqb, eqb-true, false, inl, inr, leb-true, length, ltb, refl, subst, sym, true, ℕ, ◌%◌, ◌*◌, ◌+◌, ◌∙◌, ◌∷◌, ◌≡◌, ◌≤◌}
use Rattle.std.proofs.lemmas.Bool.{leb-false, ltb-false}
use Rattle.std.specs.Prelude.{nat_le, slice_index}
use Rattle.model_core.proofs.Lsns.{lsn_le}
use Rattle.model_core.proofs.Tails.{held_in, tail_in}
use Rattle.model_core.specs.{user_holds_tail, writer_holds_tail, Advance, ceiling, flusher_op, flusher_took, FlusherState, has_log_space, has_whole_word, is_held, left_in_word, Listed, LogServed, lsn, Nothing, old_of, read_place, shared_left, SharedWords, stands_outside, tail_of, tail_word, UserState, word_end, writer_op, writer_took, WriterState, DataSide, LogSide, Setup}
use Rattle.model_core.specs.declared.ops.Answer.{Answer}
use Rattle.model_core.specs.declared.ops.Op.{Op}
use Rattle.model_core.specs.declared.steps.FlusherStep.{FlusherStep}
use Rattle.model_core.specs.declared.steps.UserStep.{UserStep}
use Rattle.model_core.specs.declared.steps.WriterStep.{WriterStep}
use Rattle.model_base.specs.declared.limits.TheConstants.{BLOCK_SIZE}
use Rattle.model_log.specs.declared.layout.TheConstants.{BLOCK_DATA}
use Rattle.model_core.specs.declared.limits.TheConstants.{ADVANCE_PLACES, FREE_MARGIN, WRITTEN_LINKS}
use Rattle.model_core.specs.declared.ops.Answer.TheVariants as answer
use Rattle.model_core.specs.declared.steps.AdvanceStep.TheVariants as advance_step
use Rattle.model_core.specs.declared.steps.FlusherStep.TheVariants as flusher_step
use Rattle.model_core.specs.declared.steps.UserStep.TheVariants as user_step
use Rattle.model_core.specs.declared.steps.WriterStep.TheVariants as writer_step
use Rattle.model_core.specs.declared.words.LinkBuffer.TheVariants as link_buffer
use Rattle.model_core.specs.States as actor
use Rattle.model_logcore.specs.{FlusherAt, FlusherFits, UserFits, WriterAt, WriterFits, left_to_reserve}
use Rattle.model_logcore.specs.LogLaws.{AfterSync, LogLaws}
use Rattle.model_own.specs.{all_actors, LogWork, OwnUser, after_flusher, after_writer, flusher_from, flushes_at, has_failed, written}
use Rattle.model_own.specs.declared.errand.ErrandStep.{ErrandStep}
use Rattle.model_own.specs.declared.errand.ErrandStep.TheVariants as errand_step
use Rattle.model_ownrun.proofs.Linked.{Below, far_enough, no_link, out_below, tail_free}
use Rattle.model_ownrun.proofs.Moves.{answer_to, Runs}
use Rattle.model_ownrun.proofs.WriterStates.{with_advance, with_cleared, with_room, with_word, with_write}
use Rattle.model_ownrun.specs.OwnRunning.{Alone, ErrandAlone, FlusherAlone, OutAt, UserAlone, WriterAlone, top, FlushesAt, WritesAt}

-- at such a step the user holds no tail, and nothing more is known
out_free : (s : UserStep) → OutAt s → user_holds_tail link_buffer.Written s ≡ false
out_free user_step.LoadCheckpoint o = refl
out_free user_step.LoadWrite o = refl
out_free user_step.AwaitMark o = refl
out_free _ o = absurd o

pub out_knows : (m : SharedWords) (u : UserState) (s : UserStep) → OutAt s → UserAlone m u s
out_knows m u user_step.LoadCheckpoint o = tt
out_knows m u user_step.LoadWrite o = tt
out_knows m u user_step.AwaitMark o = tt
out_knows m u _ o = absurd o

-- as long as SN stays
top_same : (m m1 : SharedWords) (u : UserState) (s : UserStep) → m1.sn ≡ m.sn → top m1 u s ≡ top m u s
top_same m m1 u user_step.LoadCheckpoint e = e
top_same m m1 u user_step.LoadSn e = e
top_same m m1 u user_step.AwaitMark e = refl
top_same m m1 u _ e = refl

module _ (D : LogSide) (L : LogLaws D) (E : DataSide) (c : Setup) (m : SharedWords) (ls : ℕ → List Listed)
    (p : D.Part) (d : E.Part) (o : OwnUser) (k : LogWork)
    (runs : Runs D E c m ls p d (all_actors (o ∷ []) k [])) (alone : Alone c m o k)
    (asks : o.user.checks ≡ false) (out : OutAt o.user.step) (not_helped : o.helped ≡ false) (code : ℕ)
    (q : D.Part) where
  fits : UserFits D c m runs.0 p 0 o.user
  fits = runs.2.logged.each 0 (actor.User o.user) refl

  of_writer : WriterFits D c m runs.0 p 1 k.writer
  of_writer = runs.2.logged.each 1 (actor.Writer k.writer) refl

  of_flusher : FlusherFits D c m runs.0 p 2 k.flusher
  of_flusher = runs.2.logged.each 2 (actor.Flusher k.flusher) refl

  -- the lsn up to which all groups are linked
  abbrev linked : ℕ
  linked = lsn (top m o.user o.user.step)

  below : Below D c m runs.0 p o.user k.writer k.flusher runs.2.logged (top m o.user o.user.step)
  below = out_below D c m runs.0 p o.user k.writer k.flusher runs.2.logged o.user.step out fits.step

  linked_same : (m1 : SharedWords) → m1.sn ≡ m.sn → lsn (top m1 o.user o.user.step) ≡ linked
  linked_same m1 sn = ap lsn (top_same m m1 o.user o.user.step sn)

  room_same : (m1 : SharedWords) → m1.sn ≡ m.sn → m1.ckpt ≡ m.ckpt
      → lsn (m1.sn + left_to_reserve (actor.User o.user)) + FREE_MARGIN ≤ m1.ckpt + BLOCK_SIZE * c.blocks
  room_same m1 sn ckpt =
      let left : ℕ = left_to_reserve (actor.User o.user) in
      let room = subst (λ (x : ℕ). lsn (x + left) + FREE_MARGIN ≤ m.ckpt + BLOCK_SIZE * c.blocks) (sym sn)
      alone.room in
      omega arith

  -- the user is as it was, and the work has gone on
  pub on : (m1 : SharedWords) (errand : ErrandStep) (k1 : LogWork) → m1.sn ≡ m.sn → m1.ckpt ≡ m.ckpt
      → ErrandAlone m1 o.user k1 errand → Alone c m1 (record o { errand = errand }) k1
  on m1 errand k1 sn ckpt z = record {
    room = room_same m1 sn ckpt;
    user = out_knows m1 o.user o.user.step out;
    errand = z;
    out = inr (out, not_helped);
    helped = λ h. let z : false ≡ true = sym not_helped ∙ h in absurd (cc);
  }

  -- it has ended by a failure
  ended : (m1 : SharedWords) (k1 : LogWork) (code : ℕ) → m1.sn ≡ m.sn → m1.ckpt ≡ m.ckpt
      → Alone c m1 (has_failed o code) k1
  ended m1 k1 code sn ckpt = record {
    room = room_same m1 sn ckpt;
    user = tt;
    errand = tt;
    out = inl refl;
    helped = λ h. absurd (cc);
  }

  -- what is written reaches so far, so what is flushed will, or does
  abbrev syncs : FlusherState → ℕ → Bool → FlusherState
  syncs f write z = cond z (record f { write = write; checks = false; step = flusher_step.Sync })
      (record f { checks = false; step = flusher_step.GiveDevice })

  flusher_knows : (m1 : SharedWords) (b : Bool) (f : FlusherState) (write to : ℕ) → f.last ≡ m1.flushed → to ≤ write
      → FlusherAlone m1 to b (flusher_from b f write) (flusher_from b f write).step
  flusher_knows m1 true f write to last le = by (ltb f.last write) refl
    where
      by : (z : Bool) → ltb f.last write ≡ z → FlusherAlone m1 to true (syncs f write z) (syncs f write z).step
      by true e = tt
      by false e = λ _. let z = ltb-false f.last write e in omega arith
  flusher_knows m1 false f write to last le = λ z. absurd (cc)

  to_flush : (m1 : SharedWords) (s : WriterState) → m1.sn ≡ m.sn → m1.ckpt ≡ m.ckpt → m1.flushed ≡ m.flushed
      → s.write ≡ m1.write → linked ≤ m1.write → Alone c m1 (written o k s).0 (written o k s).1
  to_flush m1 s sn ckpt flushed write le =
      let to : ℕ = lsn (top m1 o.user o.user.step) in
      let same : to ≡ linked = linked_same m1 sn in
      let last = of_flusher.last in
      let knows = flusher_knows m1 (flushes_at o.user o.user.step) k.flusher s.write to (omega arith) (omega arith) in
      on m1 errand_step.Flush (written o k s).1 sn ckpt (omega arith, knows)

  module _ (errand : o.errand ≡ errand_step.Write) where
    abbrev asked : WriterStep → Op
    asked st = writer_op k.writer st

    abbrev told : WriterStep → Answer
    told st = answer_to D p code q m ls (writer_op k.writer st)

    abbrev next : WriterStep → WriterState
    next st = writer_took k.writer (told st) st

    -- the user and the work go on with the writer so
    abbrev Went : SharedWords → WriterState → Type 0
    Went m1 s = Alone c m1 (after_writer o k s s.step).0 (after_writer o k s s.step).1

    abbrev Goes : WriterStep → Type 0
    Goes st = Went (shared_left m (asked st)) (next st)

    stays : (m1 : SharedWords) (s : WriterState) (f : FlusherState) → m1.sn ≡ m.sn → m1.ckpt ≡ m.ckpt
        → WriterAlone m1 linked s s.step → Alone c m1 o (record { writer = s; flusher = f })
    stays m1 s f sn ckpt z =
        let work : LogWork = record { writer = s; flusher = f } in
        let knows = subst (λ (x : ℕ). WriterAlone m1 x s s.step) (sym (linked_same m1 sn)) z in
        subst (λ (x : ErrandStep). Alone c m1 (record o { errand = x }) work) (sym errand)
        (on m1 errand_step.Write work sn ckpt knows)

    stands : (st : WriterStep) → k.writer.step ≡ st → WriterAt D c m runs.0 p 1 k.writer st
    stands st is = subst (WriterAt D c m runs.0 p 1 k.writer) is of_writer.step

    -- WTAIL is free where the writer hasn't it
    free : writer_holds_tail link_buffer.Written k.writer.step ≡ false → m.wheld ≡ false
    free none =
        let user_free = out_free o.user.step out in
        tail_free D c m runs.0 p o.user k.writer k.flusher runs.2.logged user_free none

    abbrev adv : Advance
    adv = k.writer.advance

    abbrev tail_found : ℕ
    tail_found = tail_of (tail_word m.wtail m.wheld)

    abbrev link_found : ℕ
    link_found = slice_index m.wlinks (k.writer.advance.place % WRITTEN_LINKS)

    abbrev with_tail : ℕ → Bool → SharedWords
    with_tail tail held = record m { wtail = tail_of (tail_word tail held); wheld = is_held (tail_word tail held) }

    -- the writer after each Op of its advance: by whether the tail is held, is as it was loaded, has no link, and is
    -- near; and by whether nothing is new
    abbrev loads : Bool → WriterState
    loads held = with_advance k.writer (record adv { tail = tail_found }) tail_found
        (cond held (nat_le tail_found k.writer.write) false) held advance_step.TakeTail

    abbrev takes : Bool → WriterState
    takes found = with_advance k.writer (record adv { place = adv.tail }) k.writer.tail
        (cond (cond found false true) (nat_le k.writer.tail k.writer.write) false) (cond found false true)
        advance_step.LoadLink

    abbrev follows : Bool → WriterState
    follows none = with_advance k.writer (record adv { link = link_found }) k.writer.tail false false
        (cond none advance_step.FreeTail advance_step.ClearLink)

    abbrev clears : Bool → WriterState
    clears near = with_advance k.writer (record adv { place = adv.place + adv.link; link = 0 }) k.writer.tail false
        false (cond near advance_step.LoadLink advance_step.FreeTail)

    abbrev frees : Bool → WriterState
    frees none = with_advance k.writer adv adv.place none true advance_step.LoadTail

    pub write_goes : (st : WriterStep) → k.writer.step ≡ st → WritesAt D p st k.flusher.step
        → WriterAlone m linked k.writer st → Goes st
    write_goes (writer_step.Advance advance_step.LoadTail) is w knows =
        by (is_held (tail_word m.wtail m.wheld))
        (held_in m.wtail m.wheld ∙ free (ap (writer_holds_tail link_buffer.Written) is))
      where
        by : (b : Bool) → b ≡ false → Went m (loads b)
        by true e = absurd (cc)
        by false e = stays m (loads false) k.flusher refl refl (tail_in m.wtail m.wheld)
    write_goes (writer_step.Advance advance_step.TakeTail) is w knows =
        by (eqb (tail_word m.wtail m.wheld) (tail_word adv.tail false)) finds
      where
        finds : eqb (tail_word m.wtail m.wheld) (tail_word adv.tail false) ≡ true
        finds =
            let not_held = free (ap (writer_holds_tail link_buffer.Written) is) in
            eq-eqb (tail_word m.wtail m.wheld) (tail_word adv.tail false)
            (ap (λ (b : Bool). tail_word m.wtail b) not_held ∙ ap (λ (t : ℕ). tail_word t false) (sym knows))

        by : (b : Bool) → b ≡ true → Went (cond b (with_tail adv.tail true) m) (takes b)
        by true e = stays (with_tail adv.tail true) (takes true) k.flusher refl refl tt
        by false e = absurd (cc)
    write_goes (writer_step.Advance advance_step.LoadLink) is w knows = by (eqb link_found 0) refl
      where
        at : WriterAt D c m runs.0 p 1 k.writer (writer_step.Advance advance_step.LoadLink)
        at = stands (writer_step.Advance advance_step.LoadLink) is

        by : (b : Bool) → eqb link_found 0 ≡ b → Went m (follows b)
        by true e = stays m (follows true) k.flusher refl refl
            (no_link D c m runs.0 p o.user k.writer k.flusher runs.2.logged (top m o.user o.user.step) below 1
            adv at.1 (eqb-true link_found 0 e))
        by false e = stays m (follows false) k.flusher refl refl tt
    write_goes (writer_step.Advance advance_step.ClearLink) is w knows =
        by (ltb (adv.place + adv.link) (adv.tail + ADVANCE_PLACES)) refl
      where
        at : WriterAt D c m runs.0 p 1 k.writer (writer_step.Advance advance_step.ClearLink)
        at = stands (writer_step.Advance advance_step.ClearLink) is

        by : (b : Bool) → ltb (adv.place + adv.link) (adv.tail + ADVANCE_PLACES) ≡ b
            → Went (shared_left m (asked (writer_step.Advance advance_step.ClearLink))) (clears b)
        by true e = stays (shared_left m (asked (writer_step.Advance advance_step.ClearLink))) (clears true) k.flusher
            refl
            refl tt
        by false e =
            let far = ltb-false (adv.place + adv.link) (adv.tail + ADVANCE_PLACES) e in
            let tail = at.1.0.tail in
            let enough = far_enough D c m runs.0 p o.user k.writer k.flusher runs.2.logged
            (top m o.user o.user.step) below 1 adv at.1.0 at.1.1 at.1.2 (omega arith) in
            stays (shared_left m (asked (writer_step.Advance advance_step.ClearLink))) (clears false) k.flusher refl
            refl enough
    write_goes (writer_step.Advance advance_step.FreeTail) is w knows = by (nat_le adv.place k.writer.write) refl
      where
        by : (b : Bool) → nat_le adv.place k.writer.write ≡ b → Went (with_tail adv.place false) (frees b)
        by true e =
            let le = leb-true adv.place k.writer.write e in
            let same = of_writer.write in
            to_flush (with_tail adv.place false) (frees true) refl refl refl of_writer.write (omega arith)
        by false e = stays (with_tail adv.place false) (frees false) k.flusher refl refl knows
    write_goes writer_step.LoadCheckpoint is w knows =
        by (has_log_space k.writer m.ckpt) refl (stands_outside k.writer)
      where
        by : (b : Bool) → has_log_space k.writer m.ckpt ≡ b → (b2 : Bool) → Went m (with_room k.writer m.ckpt b b2)
        by true e true = stays m (with_room k.writer m.ckpt true true) k.flusher refl refl knows
        by true e false = stays m (with_room k.writer m.ckpt true false) k.flusher refl refl knows
        by false e b2 =
            let few = leb-false (ceiling k.writer.tail) (m.ckpt + BLOCK_SIZE * k.writer.blocks) e in
            let O = runs.2.logged.global.order in
            let o1 = O.target_wtail in let o2 = O.wtail_tail in let o3 = O.tail_sn in
            let l = lsn_le runs.0.target (m.sn + left_to_reserve (actor.User o.user)) (omega arith) in
            let tail = of_writer.tail in
            let ring : BLOCK_SIZE * k.writer.blocks ≡ BLOCK_SIZE * c.blocks =
            ap (λ (x : ℕ). BLOCK_SIZE * x) of_writer.blocks in
            let room = alone.room in
            absurd (omega arith)
    write_goes writer_step.LoadFirst is w knows = stays m _ k.flusher refl refl knows
    write_goes writer_step.ClearFirst is w knows = stays _ _ k.flusher refl refl knows
    write_goes writer_step.LoadCell is w knows = by (has_whole_word k.writer)
      where
        by : (b : Bool) → Went m (with_word k.writer (old_of (told writer_step.LoadCell)) b)
        by true = stays m (with_word k.writer (old_of (told writer_step.LoadCell)) true) k.flusher refl refl knows
        by false =
            let s : WriterState = with_word k.writer (old_of (told writer_step.LoadCell)) false in
            stays m (record s { step = writer_step.WriteTo }) (record k.flusher { step = flusher_step.LoadWrite })
            refl refl knows
    write_goes writer_step.ClearCell is w knows = by (eqb (lsn (word_end k.writer)) k.writer.tail)
        (eqb (length k.writer.kept + left_in_word (read_place k.writer)) (BLOCK_DATA * length k.writer.firsts))
      where
        by : (b b2 : Bool) → Went (shared_left m (asked writer_step.ClearCell)) (with_cleared k.writer b b2)
        by true b2 =
            let s : WriterState = with_cleared k.writer true b2 in
            stays _ (record s { step = writer_step.WriteTo }) (record k.flusher { step = flusher_step.LoadWrite })
            refl refl knows
        by false true = stays _ (with_cleared k.writer false true) k.flusher refl refl knows
        by false false = stays _ (with_cleared k.writer false false) k.flusher refl refl knows
    write_goes writer_step.WriteTo is w knows = by (eqb code 0)
      where
        by : (b : Bool) → Went m (with_write k.writer code b)
        by true = stays m (with_write k.writer code true) k.flusher refl refl knows
        by false = stays m (with_write k.writer code false) k.flusher refl refl tt
    write_goes writer_step.StoreWrite is w knows =
        to_flush (record m { write = k.writer.tail }) (next writer_step.StoreWrite) refl refl refl refl knows
    write_goes writer_step.StoreFailed is w knows = stays _ (next writer_step.StoreFailed) k.flusher refl refl tt
    write_goes writer_step.GiveFailed is w knows = ended _ _ _ refl refl
    write_goes writer_step.TakeDevice is w knows = absurd w
    write_goes writer_step.GiveBroken is w knows = absurd w
    write_goes writer_step.GiveDevice is w knows = absurd w
    write_goes writer_step.Failed is w knows = absurd w

  module _ (errand : o.errand ≡ errand_step.Flush) (rests : k.writer.step ≡ writer_step.Advance advance_step.LoadTail)
      (reached : linked ≤ m.write) where
    abbrev flush_op : FlusherStep → Op
    flush_op st = flusher_op k.flusher st

    abbrev flushed : FlusherStep → FlusherState
    flushed st = flusher_took k.flusher (answer_to D p code q m ls (flusher_op k.flusher st)) st

    -- the user and the work go on with the flusher so
    abbrev Kept : SharedWords → FlusherState → Type 0
    Kept m1 f = Alone c m1 (after_flusher o k f f.step).0 (after_flusher o k f f.step).1

    keeps_on : (m1 : SharedWords) (f : FlusherState) → m1.sn ≡ m.sn → m1.ckpt ≡ m.ckpt → m1.write ≡ m.write
        → FlusherAlone m1 linked (flushes_at o.user o.user.step) f f.step → Alone c m1 o (record k { flusher = f })
    keeps_on m1 f sn ckpt write z =
        let same : lsn (top m1 o.user o.user.step) ≡ linked = linked_same m1 sn in
        let knows = subst (λ (x : ℕ). FlusherAlone m1 x (flushes_at o.user o.user.step) f f.step) (sym same) z in
        subst (λ (x : ErrandStep). Alone c m1 (record o { errand = x }) (record k { flusher = f })) (sym errand)
        (on m1 errand_step.Flush (record k { flusher = f }) sn ckpt (omega arith, knows))

    abbrev synced : Bool → FlusherState
    synced b = flusher_took k.flusher (cond b (answer.Called (D.stable q)) (answer.Failed code)) flusher_step.Sync

    pub flush_goes : (st : FlusherStep) → k.flusher.step ≡ st → FlushesAt D p st
        → FlusherAlone m linked (flushes_at o.user o.user.step) k.flusher st
        → LogServed D p Nothing (flush_op st) code q
        → Kept (shared_left m (flush_op st)) (flushed st)
    flush_goes flusher_step.Sync is w knows served = by (eqb code 0) refl
      where
        A : AfterSync D c.blocks c.base runs.0.log code p q
        A = L.syncs c.blocks c.base runs.0.log code p q runs.2.logged.global.part.holds
            (subst (FlusherAt D c m runs.0 p k.flusher) is of_flusher.step) served

        idle : WriterAt D c m runs.0 p 1 k.writer (writer_step.Advance advance_step.LoadTail)
        idle = subst (WriterAt D c m runs.0 p 1 k.writer) rests of_writer.step

        by : (b : Bool) → eqb code 0 ≡ b → Kept m (synced b)
        by true e =
            let stable : D.stable q ≡ D.written p = A.stable
            ∙ ap (λ (b : Bool). cond b (D.written p) (D.stable p)) e in
            let written = idle.0.1 in
            keeps_on m (synced true) refl refl refl (omega arith)
        by false e = keeps_on m (synced false) refl refl refl tt
    flush_goes flusher_step.StoreFlushed is w knows served =
        keeps_on (record m { flushed = k.flusher.mark }) (flushed flusher_step.StoreFlushed) refl refl refl
        (λ _. knows)
    flush_goes flusher_step.GiveDevice is w knows served =
        let free : SharedWords = record m { device = 0 } in
        let same : lsn (top free o.user o.user.step) ≡ linked = linked_same free refl in
        record {
          room = alone.room;
          user = out_knows free o.user o.user.step out;
          errand = tt;
          out = inl refl;
          helped = λ _. ((omega arith, (λ f. let z = knows f in omega arith)), asks);
        }
    flush_goes flusher_step.StoreFailed is w knows served =
        keeps_on _ (flushed flusher_step.StoreFailed) refl refl refl tt
    flush_goes flusher_step.GiveFailed is w knows served = ended _ _ _ refl refl
    flush_goes flusher_step.LoadWrite is w knows served = absurd w
    flush_goes flusher_step.TakeDevice is w knows served = absurd w
    flush_goes flusher_step.GiveBroken is w knows served = absurd w
    flush_goes flusher_step.Failed is w knows served = absurd w
