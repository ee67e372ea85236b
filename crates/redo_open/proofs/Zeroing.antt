-- Writes of zeros, one after the other, and a sync after them.
use Rattle.std.proofs.Common.{◌≡◌, ◌≤◌, ◌+◌, ◌-◌, ◌*◌, ◌⊎◌, ℕ, inl, inr, List, [], length, take, refl, sym, ap, subst, ◌∙◌, ⊎_elim, arith}
use Rattle.std.specs.Prelude.{replicate, Result, Ok, Err}
use Rattle.std.proofs.lemmas.Bool.{cases_lt}
use Rattle.std.proofs.lemmas.List.{drop-replicate, drop_all, take-replicate}
use Rattle.std.proofs.lemmas.Result.{on_ok_weaker}
use Rattle.model_device.specs.{after_write, Covers, FailsWrite, IsSectorWrite, IsWithin, sector, synced, written, written_sector, Disk}
use Rattle.model_device.specs.declared.write.Write.{Write}
use Rattle.model_device.proofs.Images.{sector-after_write}
use Rattle.model_device.proofs.Overwritten.{length-overwritten, part-overwritten_inside}
use Rattle.model_log.specs.{fits_checksum}
use Rattle.model_parts.specs.{IsErasing, IsUnsealed, zero_block, MayStand}
use Rattle.model_parts.proofs.Torn.{adds-torn, AddsTorn, fails-torn, IsWhole, stands-sector}
use Rattle.model_parts.proofs.Unread.{zeros-unsealed}
use Rattle.redo_disk.specs.{IsRange, SyncStep, write_at, WriteStep, Seen}
use Rattle.redo_disk.specs.declared.error.DevError.{DevError}
use Rattle.redo_disk.proofs.Told.{OnTold-then, told-as, told-same}
use Rattle.redo_open.specs.Put.{IsAtRestTo}
use Rattle.redo_open.specs.Zeroing.{ErasesLog, EraseStep, HasErasedLog, HasZeroed, IsLongTo, Zeroes, ZeroStep}
use Rattle.redo_open.proofs.Rests.{rests-stands, settled-image, settled-rests}
use Rattle.redo_open.proofs.Rows.{length-zeros}
use Rattle.redo_open.proofs.Told.{cause-since}

-- the write of so many zeros
abbrev pub zeros_write : ℕ → ℕ → Write
zeros_write at count = write_at at (replicate count 0)

-- ONE WRITE.

zeros-put : (at count k : ℕ) → Covers (zeros_write at count) k → written_sector (zeros_write at count) k ≡ zero_block
zeros-put at count k covers =
    let skipped : ℕ = 512 * k - at in
    let long : length (replicate {A = ℕ} count 0) ≡ count = length-zeros count in
    ap (take 512) (drop-replicate skipped count 0) ∙ take-replicate 512 (count - skipped) 0 (omega (arith, covers.from, covers.up_to))

zeros-gone : (at count k : ℕ) (bytes : List ℕ) → Covers (zeros_write at count) k → bytes ≡ written_sector (zeros_write at count) k → IsUnsealed bytes
zeros-gone at count k bytes covers is = ap fits_checksum (is ∙ zeros-put at count k covers) ∙ zeros-unsealed

pub zeros-sectors : (size at count : ℕ) → IsRange size at count → (n : ℕ) → at + count ≤ n → IsSectorWrite n (zeros_write at count)
zeros-sectors size at count range n within =
    let long : length (replicate {A = ℕ} count 0) ≡ count = length-zeros count in
    record { aligned = range.from_sector; whole = omega (arith, range.whole_sectors); within = omega (arith, within) }

either-zeros : (at count k : ℕ) (old : Disk) (bytes : List ℕ) → MayStand old k bytes ⊎ (Covers (zeros_write at count) k × IsWhole (zeros_write at count) k bytes)
    → MayStand old k bytes ⊎ (Covers (zeros_write at count) k × IsUnsealed bytes)
either-zeros at count k old bytes may =
    ⊎_elim (λ before. inl before) (λ here. inr (here.0, ⊎_elim (λ whole. zeros-gone at count k bytes here.0 whole) (λ broken. broken) here.1)) may

same-or-longer : (size at count : ℕ) (old new : Disk) → IsRange size at count → IsLongTo (at + count) old → FailsWrite (zeros_write at count) old new → Zeroes (Covers (zeros_write at count)) old new
same-or-longer size at count old new range long fails =
    let adds : AddsTorn (zeros_write at count) old new = fails-torn (zeros_write at count) old new fails in
    record {
      same_base = adds.same_length;
      same_reads = ⊎_elim (λ none. ap length none.1) (λ pending. pending.1.same_length) fails.pending;
      sectors = adds.sectors (zeros-sectors size at count range (length old.base) long.base);
      each = λ k bytes is. either-zeros at count k old bytes (adds.each k bytes is);
    }

zeros-written : (size at count : ℕ) (old : Disk) → IsRange size at count → IsLongTo (at + count) old → HasZeroed (Covers (zeros_write at count)) old (written old (zeros_write at count))
zeros-written size at count old range long =
    let write : Write = zeros_write at count in
    let adds : AddsTorn write old (written old write) = adds-torn write old in
    let sectors : IsSectorWrite (length old.reads) write = zeros-sectors size at count range (length old.reads) long.reads in
    record {
      zeroes = record {
        same_base = adds.same_length;
        same_reads = length-overwritten write.at write.bytes old.reads sectors.within;
        sectors = adds.sectors (zeros-sectors size at count range (length old.base) long.base);
        each = λ k bytes is. either-zeros at count k old bytes (adds.each k bytes is);
      };
      reads = λ k. ⊎_elim (λ here. inr (here.0, zeros-gone at count k (sector k (after_write old.reads write)) here.0 here.1)) (λ same. inl same) (sector-after_write old.reads write k sectors);
      gone = λ k covers. zeros-gone at count k (sector k (after_write old.reads write)) covers
          (part-overwritten_inside 512 (512 * k) at write.bytes old.reads covers.from covers.up_to sectors.within);
    }

-- FEWER OR MORE SECTORS.

pub zeroes-as : (One Other : ℕ → Type 0) (old new : Disk) → ((k : ℕ) → One k → Other k) → Zeroes One old new → Zeroes Other old new
zeroes-as One Other old new more is = record {
  same_base = is.same_base;
  same_reads = is.same_reads;
  sectors = is.sectors;
  each = λ k bytes may. ⊎_elim (λ before. inl before) (λ here. inr (more k here.0, here.1)) (is.each k bytes may);
}

pub zeroed-as : (One Other : ℕ → Type 0) (old new : Disk) → ((k : ℕ) → One k → Other k) → ((k : ℕ) → Other k → One k) → HasZeroed One old new → HasZeroed Other old new
zeroed-as One Other old new more less is = record {
  zeroes = zeroes-as One Other old new more is.zeroes;
  reads = λ k. ⊎_elim (λ same. inl same) (λ here. inr (more k here.0, here.1)) (is.reads k);
  gone = λ k other. is.gone k (less k other);
}

-- ONE AFTER THE OTHER.

abbrev pub Either : (ℕ → Type 0) → (ℕ → Type 0) → ℕ → Type 0
Either One Other k = One k ⊎ Other k

pub zeroed-none : (Zeroed : ℕ → Type 0) (disk : Disk) → ((k : ℕ) → Zeroed k → ⊥) → HasZeroed Zeroed disk disk
zeroed-none Zeroed disk none = record {
  zeroes = record { same_base = refl; same_reads = refl; sectors = λ all. all; each = λ k bytes is. inl is };
  reads = λ k. inl refl;
  gone = λ k is. absurd (none k is);
}

zeroes-then : (One Other : ℕ → Type 0) (old mid new : Disk) → Zeroes One old mid → Zeroes Other mid new → Zeroes (Either One Other) old new
zeroes-then One Other old mid new first then = record {
  same_base = then.same_base ∙ first.same_base;
  same_reads = then.same_reads ∙ first.same_reads;
  sectors = λ all. then.sectors (first.sectors all);
  each = λ k bytes may. ⊎_elim (λ before. ⊎_elim (λ earlier. inl earlier) (λ here. inr (inl here.0, here.1)) (first.each k bytes before)) (λ here. inr (inr here.0, here.1)) (then.each k bytes may);
}

pub zeroed-then : (One Other : ℕ → Type 0) (old mid new : Disk) → HasZeroed One old mid → HasZeroed Other mid new → HasZeroed (Either One Other) old new
zeroed-then One Other old mid new first then = record {
  zeroes = zeroes-then One Other old mid new first.zeroes then.zeroes;
  reads = λ k. ⊎_elim
      (λ same. ⊎_elim (λ before. inl (same ∙ before)) (λ here. inr (inl here.0, ap fits_checksum same ∙ here.1)) (first.reads k))
      (λ here. inr (inr here.0, here.1)) (then.reads k);
  gone = λ k is. ⊎_elim
      (λ one. ⊎_elim (λ same. ap fits_checksum same ∙ first.gone k one) (λ here. here.1) (then.reads k))
      (λ other. then.gone k other) is;
}

-- a device that was written so is as long
long-on : (end : ℕ) (Zeroed : ℕ → Type 0) (old new : Disk) → IsLongTo end old → Zeroes Zeroed old new → IsLongTo end new
long-on end Zeroed old new long is = record { base = omega (arith, long.base, is.same_base); reads = omega (arith, long.reads, is.same_reads) }

-- AS STEPS.

-- so many bytes are enough
shorter : (few many : ℕ) (disk : Disk) → few ≤ many → IsLongTo many disk → IsLongTo few disk
shorter few many disk less long = record { base = omega (arith, long.base); reads = omega (arith, long.reads) }

pub written_zeros : (size at count end : ℕ) (old : Seen) (result : Result (Unit {0}) DevError) (new : Seen) → IsRange size at count → at + count ≤ end
    → WriteStep (zeros_write at count) old result new → ZeroStep (Covers (zeros_write at count)) end old result new
written_zeros size at count end old (Ok done) new range within step = record {
  ok = told-as old.tells new.tells (λ before after. after ≡ written before (zeros_write at count)) (λ before after. IsLongTo end before → HasZeroed (Covers (zeros_write at count)) before after)
      (λ before after is long. subst (HasZeroed (Covers (zeros_write at count)) before) (sym is) (zeros-written size at count before range (shorter (at + count) end before within long))) step.ok;
  err = tt;
  size = step.size;
  cause = step.cause;
}
written_zeros size at count end old (Err error) new range within step = record {
  ok = tt;
  err = told-as old.tells new.tells (FailsWrite (zeros_write at count)) (λ before after. IsLongTo end before → Zeroes (Covers (zeros_write at count)) before after)
      (λ before after fails long. same-or-longer size at count before after range (shorter (at + count) end before within long) fails) step.err;
  size = step.size;
  cause = step.cause;
}

pub zero_as : (One Other : ℕ → Type 0) (end : ℕ) (old : Seen) (result : Result (Unit {0}) DevError) (new : Seen) → ((k : ℕ) → One k → Other k) → ((k : ℕ) → Other k → One k)
    → ZeroStep One end old result new → ZeroStep Other end old result new
zero_as One Other end old (Ok done) new more less step = record {
  ok = told-as old.tells new.tells (λ before after. IsLongTo end before → HasZeroed One before after) (λ before after. IsLongTo end before → HasZeroed Other before after)
      (λ before after is long. zeroed-as One Other before after more less (is long)) step.ok;
  err = tt;
  size = step.size;
  cause = step.cause;
}
zero_as One Other end old (Err error) new more less step = record {
  ok = tt;
  err = told-as old.tells new.tells (λ before after. IsLongTo end before → Zeroes One before after) (λ before after. IsLongTo end before → Zeroes Other before after)
      (λ before after is long. zeroes-as One Other before after more (is long)) step.err;
  size = step.size;
  cause = step.cause;
}

pub zero_failed : (One Other : ℕ → Type 0) (end : ℕ) (old : Seen) (error : DevError) (new : Seen) → ((k : ℕ) → One k → Other k) → ZeroStep One end old (Err error) new
    → ZeroStep Other end old (Err error) new
zero_failed One Other end old error new more step = record {
  ok = tt;
  err = told-as old.tells new.tells (λ before after. IsLongTo end before → Zeroes One before after) (λ before after. IsLongTo end before → Zeroes Other before after)
      (λ before after is long. zeroes-as One Other before after more (is long)) step.err;
  size = step.size;
  cause = step.cause;
}

pub zero_nothing : (Zeroed : ℕ → Type 0) (end : ℕ) (old : Seen) (done : Unit {0}) → ((k : ℕ) → Zeroed k → ⊥) → ZeroStep Zeroed end old (Ok done) old
zero_nothing Zeroed end old done none = record {
  ok = told-same old.tells old.tells (λ before after. IsLongTo end before → HasZeroed Zeroed before after) (λ before long. zeroed-none Zeroed before none) refl;
  err = tt;
  size = refl;
  cause = record { later = omega arith; failed = λ is. absurd cc };
}

pub zero_steps : (One Other : ℕ → Type 0) (end : ℕ) (old mid : Seen) (done : Unit {0}) (result : Result (Unit {0}) DevError) (new : Seen) → ZeroStep One end old (Ok done) mid
    → ZeroStep Other end mid result new → ZeroStep (Either One Other) end old result new
zero_steps One Other end old mid done (Ok then_done) new first then = record {
  ok = OnTold-then old.tells mid.tells new.tells (λ a b. IsLongTo end a → HasZeroed One a b) (λ b c. IsLongTo end b → HasZeroed Other b c)
      (λ a c. IsLongTo end a → HasZeroed (Either One Other) a c)
      (λ a b c one other long. zeroed-then One Other a b c (one long) (other (long-on end One a b long (one long).zeroes))) first.ok then.ok;
  err = tt;
  size = then.size ∙ first.size;
  cause = cause-since old.faults mid.faults new.faults (Ok then_done) first.cause.later then.cause;
}
zero_steps One Other end old mid done (Err error) new first then = record {
  ok = tt;
  err = OnTold-then old.tells mid.tells new.tells (λ a b. IsLongTo end a → HasZeroed One a b) (λ b c. IsLongTo end b → Zeroes Other b c)
      (λ a c. IsLongTo end a → Zeroes (Either One Other) a c)
      (λ a b c one other long. zeroes-then One Other a b c (one long).zeroes (other (long-on end One a b long (one long).zeroes))) first.ok then.err;
  size = then.size ∙ first.size;
  cause = cause-since old.faults mid.faults new.faults (Err error) first.cause.later then.cause;
}

-- ON A DEVICE AT REST.

rests-long : (end : ℕ) (disk : Disk) → IsAtRestTo end disk → IsLongTo end disk
rests-long end disk rests = record { base = omega (arith, rests.long, rests.rests.reads.same_length); reads = rests.long }

-- a sector past the end is empty
past-end : (k : ℕ) (bytes : List ℕ) → length bytes ≤ 512 * k → sector k bytes ≡ []
past-end k bytes past = ap (take 512) (drop_all (512 * k) bytes past)

erases-log : (Erased : ℕ → Type 0) (end : ℕ) (before after : Disk) → IsAtRestTo end before → Zeroes Erased before after → ErasesLog Erased before.reads after
erases-log Erased end before after rests is image fair = record {
  same_length = fair.possible.same_length ∙ is.same_base ∙ sym rests.rests.reads.same_length;
  each = λ k. ⊎_elim
      (λ inside. ⊎_elim (λ was. inl (rests-stands before k (sector k image) rests.rests was)) (λ here. inr here)
      (is.each k (sector k image) (stands-sector after image k (is.sectors rests.rests.sectors) fair inside)))
      (λ past. inl (past-end k image (omega (arith, fair.possible.same_length)) ∙ sym (past-end k before.reads (omega (arith, rests.rests.reads.same_length, is.same_base)))))
      (cases_lt (512 * k) (length after.base));
}

erasing-reads : (Erased : ℕ → Type 0) (before mid : Disk) → HasZeroed Erased before mid → IsErasing Erased before.reads mid.reads
erasing-reads Erased before mid is = record { same_length = is.zeroes.same_reads; each = is.reads }

synced-log : (Erased : ℕ → Type 0) (before mid : Disk) → HasZeroed Erased before mid → HasErasedLog Erased before.reads (synced mid)
synced-log Erased before mid is = record {
  rests = settled-rests mid.reads;
  erased = record {
    same_length = is.zeroes.same_reads;
    gone = is.gone;
    others = λ k other. ⊎_elim (λ same. same) (λ here. absurd (other here.0)) (is.reads k);
  };
}

synced-erases : (Erased : ℕ → Type 0) (before mid : Disk) → HasZeroed Erased before mid → ErasesLog Erased before.reads (synced mid)
synced-erases Erased before mid is image fair =
    subst (IsErasing Erased before.reads) (sym (settled-image (synced mid) image refl fair.possible)) (erasing-reads Erased before mid is)

pub erase_failed : (One Erased : ℕ → Type 0) (end : ℕ) (old : Seen) (error : DevError) (new : Seen) → ((k : ℕ) → One k → Erased k) → ZeroStep One end old (Err error) new
    → EraseStep Erased end old (Err error) new
erase_failed One Erased end old error new more step = record {
  keeps = told-as old.tells new.tells (λ before after. IsLongTo end before → Zeroes One before after) (λ before after. IsAtRestTo end before → ErasesLog Erased before.reads after)
      (λ before after is rests. erases-log Erased end before after rests (zeroes-as One Erased before after more (is (rests-long end before rests)))) step.err;
  ok = tt;
  size = step.size;
  cause = step.cause;
}

pub erase_synced : (Erased : ℕ → Type 0) (end : ℕ) (old mid : Seen) (done : Unit {0}) (result : Result (Unit {0}) DevError) (new : Seen) → ZeroStep Erased end old (Ok done) mid
    → SyncStep mid result new → EraseStep Erased end old result new
erase_synced Erased end old mid done (Ok sync_done) new step sync = record {
  keeps = OnTold-then old.tells mid.tells new.tells (λ a b. IsLongTo end a → HasZeroed Erased a b) (λ b c. c ≡ synced b) (λ a c. IsAtRestTo end a → ErasesLog Erased a.reads c)
      (λ a b c is same rests. subst (ErasesLog Erased a.reads) (sym same) (synced-erases Erased a b (is (rests-long end a rests)))) step.ok sync.ok;
  ok = OnTold-then old.tells mid.tells new.tells (λ a b. IsLongTo end a → HasZeroed Erased a b) (λ b c. c ≡ synced b) (λ a c. IsAtRestTo end a → HasErasedLog Erased a.reads c)
      (λ a b c is same rests. subst (HasErasedLog Erased a.reads) (sym same) (synced-log Erased a b (is (rests-long end a rests)))) step.ok sync.ok;
  size = sync.size ∙ step.size;
  cause = cause-since old.faults mid.faults new.faults (Ok sync_done) step.cause.later sync.cause;
}
erase_synced Erased end old mid done (Err error) new step sync = record {
  keeps = OnTold-then old.tells mid.tells new.tells (λ a b. IsLongTo end a → HasZeroed Erased a b) (λ b c. c ≡ b) (λ a c. IsAtRestTo end a → ErasesLog Erased a.reads c)
      (λ a b c is same rests. subst (ErasesLog Erased a.reads) (sym same) (erases-log Erased end a b rests (is (rests-long end a rests)).zeroes))
      step.ok (told-same mid.tells new.tells (λ (b c : Disk). c ≡ b) (λ b. refl) sync.err);
  ok = tt;
  size = sync.size ∙ step.size;
  cause = cause-since old.faults mid.faults new.faults (Err error) step.cause.later sync.cause;
}

-- nothing is erased, and the device is as it was
pub erase_nothing : (Erased : ℕ → Type 0) (end : ℕ) (old : Seen) (done : Unit {0}) → ((k : ℕ) → Erased k → ⊥) → EraseStep Erased end old (Ok done) old
erase_nothing Erased end old done none = record {
  keeps = told-same old.tells old.tells (λ before after. IsAtRestTo end before → ErasesLog Erased before.reads after)
      (λ before rests. erases-log Erased end before before rests (zeroed-none Erased before none).zeroes) refl;
  ok = told-same old.tells old.tells (λ before after. IsAtRestTo end before → HasErasedLog Erased before.reads after)
      (λ before rests. record { rests = rests.rests; erased = record { same_length = refl; gone = λ k is. absurd (none k is); others = λ k other. refl } }) refl;
  size = refl;
  cause = record { later = omega arith; failed = λ is. absurd cc };
}

pub erase_as : (One Other : ℕ → Type 0) (few many : ℕ) (old : Seen) (result : Result (Unit {0}) DevError) (new : Seen) → few ≤ many → ((k : ℕ) → One k → Other k) → ((k : ℕ) → Other k → One k)
    → EraseStep One few old result new → EraseStep Other many old result new
erase_as One Other few many old result new less more back step = record {
  keeps = told-as old.tells new.tells (λ before after. IsAtRestTo few before → ErasesLog One before.reads after) (λ before after. IsAtRestTo many before → ErasesLog Other before.reads after)
      (λ before after is rests image fair. erasing-as before.reads image (is (rests-shorter before rests) image fair)) step.keeps;
  ok = on_ok_weaker result (told-as old.tells new.tells (λ before after. IsAtRestTo few before → HasErasedLog One before.reads after)
      (λ before after. IsAtRestTo many before → HasErasedLog Other before.reads after)
      (λ before after is rests. erased-as before.reads after (is (rests-shorter before rests)))) step.ok;
  size = step.size;
  cause = step.cause;
}
  where
    rests-shorter : (disk : Disk) → IsAtRestTo many disk → IsAtRestTo few disk
    rests-shorter disk rests = record { rests = rests.rests; long = omega (arith, rests.long) }

    erasing-as : (was image : List ℕ) → IsErasing One was image → IsErasing Other was image
    erasing-as was image is = record { same_length = is.same_length; each = λ k. ⊎_elim (λ same. inl same) (λ here. inr (more k here.0, here.1)) (is.each k) }

    erased-as : (was : List ℕ) (disk : Disk) → HasErasedLog One was disk → HasErasedLog Other was disk
    erased-as was disk is = record {
      rests = is.rests;
      erased = record {
        same_length = is.erased.same_length;
        gone = λ k other. is.erased.gone k (back k other);
        others = λ k not_other. is.erased.others k (λ one. not_other (more k one));
      };
    }

-- WHERE THE WRITES LIE.

-- a write of zeros lies within so many bytes
pub zeros-within : (end at count : ℕ) → at + count ≤ end → IsWithin end (zeros_write at count)
zeros-within end at count inside =
    let long : length (replicate {A = ℕ} count 0) ≡ count = length-zeros count in omega (arith, inside, long)

-- what lies within some bytes lies within more
pub within-longer : (few many : ℕ) → few ≤ many → (write : Write) → IsWithin few write → IsWithin many write
within-longer few many more write inside = omega (arith, more, inside)
