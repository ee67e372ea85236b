-- Writes of zeros, one after the other.
use Rattle.std.proofs.Common.{◌≡◌, ◌≤◌, ◌+◌, ◌-◌, ◌*◌, ◌⊎◌, ℕ, inl, inr, List, [], ◌∷◌, ◌++◌, length, take, refl, sym, ap, subst, ◌∙◌, ⊎_elim, arith}
use Rattle.std.specs.Prelude.{replicate}
use Rattle.std.proofs.lemmas.List.{take-replicate, drop-replicate}
use Rattle.std.proofs.lemmas.Bool.{cases_lt}
use Rattle.model_device.specs.{AreSectorWrites, Covers, FailsWrite, IsCovered, IsSectorWrite, sector, synced, written, written_sector, Disk}
use Rattle.model_device.specs.declared.write.Write.{Write}
use Rattle.model_device.proofs.Images.{sector-after_write}
use Rattle.model_device.proofs.Overwritten.{length-overwritten, part-overwritten_inside}
use Rattle.model_log.specs.{fits_checksum}
use Rattle.model_parts.specs.{IsErased, IsErasing, IsUnsealed, MayStand, zero_block}
use Rattle.model_parts.proofs.Torn.{adds-torn, AddsTorn, fails-torn, IsWhole, stands-sector}
use Rattle.model_parts.proofs.Unread.{zeros-unsealed}
use Rattle.redo_disk.specs.{IsRange, write_at}
use Rattle.redo_open.proofs.Rests.{past-end, rests-stands, settled-image}
use Rattle.redo_open.proofs.Rows.{length-zeros}
use Rattle.redo_open.specs.Erase.{Erases, ErasesIn, HasErased, HasZeros, IsIn, Reaches}
use Rattle.redo_open.specs.Put.{IsAtRestTo}

-- the write of so many zeros
abbrev pub zeros_write : ℕ → ℕ → Write
zeros_write at count = write_at at (replicate count 0)

-- a piece of a stretch
pub record IsPart (from end at count : ℕ) : Type 0 where
  pub low : from ≤ at
  pub high : at + count ≤ end
  pub range : IsRange end at count

covers-in : (from end at count k : ℕ) → IsPart from end at count → Covers (zeros_write at count) k → IsIn from end k
covers-in from end at count k part covers =
    let long : length (replicate {A = ℕ} count 0) ≡ count = length-zeros count in
    record { low = omega (arith, part.low, covers.from); high = omega (arith, part.high, covers.up_to) }

puts-zeros : (at count k : ℕ) → Covers (zeros_write at count) k → written_sector (zeros_write at count) k ≡ zero_block
puts-zeros at count k covers =
    let skipped : ℕ = 512 * k - at in
    let long : length (replicate {A = ℕ} count 0) ≡ count = length-zeros count in
    ap (take 512) (drop-replicate skipped count 0) ∙ take-replicate 512 (count - skipped) 0 (omega (arith, covers.from, covers.up_to))

-- nothing is read of what it leaves, whole or torn
leaves-unsealed : (at count k : ℕ) (bytes : List ℕ) → Covers (zeros_write at count) k → IsWhole (zeros_write at count) k bytes → IsUnsealed bytes
leaves-unsealed at count k bytes covers whole =
    ⊎_elim (λ is. ap fits_checksum (is ∙ puts-zeros at count k covers) ∙ zeros-unsealed) (λ broken. broken) whole

part-sectors : (size from end at count : ℕ) → IsPart from end at count → end ≤ size → IsSectorWrite size (zeros_write at count)
part-sectors size from end at count part within =
    let long : length (replicate {A = ℕ} count 0) ≡ count = length-zeros count in
    record {
      aligned = part.range.from_sector;
      whole = omega (arith, part.range.whole_sectors);
      within = omega (arith, part.high);
    }

-- a device that reaches farther
pub reaches-less : (few many : ℕ) (disk : Disk) → few ≤ many → Reaches many disk → Reaches few disk
reaches-less few many disk less is = record { base = omega (arith, is.base); reads = omega (arith, is.reads) }

-- WHAT A CRASH MAY LEAVE.

abbrev IsLeft : ℕ → ℕ → Disk → ℕ → List ℕ → Type 0
IsLeft from end old k bytes = MayStand old k bytes ⊎ (IsIn from end k × IsUnsealed bytes)

wider-in : (from at end k : ℕ) → at ≤ end → IsIn from at k → IsIn from end k
wider-in from at end k up_to is = record { low = is.low; high = omega (arith, is.high) }

each-adds : (from at end count : ℕ) (old mid new : Disk) → IsPart from end at count → AddsTorn (zeros_write at count) mid new → Erases from at old mid
    → (k : ℕ) (bytes : List ℕ) → MayStand new k bytes → IsLeft from end old k bytes
each-adds from at end count old mid new part adds is k bytes stands =
    ⊎_elim (λ before. ⊎_elim (λ old_k. inl old_k) (λ here. inr (wider-in from at end k (omega (arith, part.high)) here.0, here.1)) (is.each k bytes before))
    (λ here. inr (covers-in from end at count k part here.0, leaves-unsealed at count k bytes here.0 here.1)) (adds.each k bytes stands)

sectors-add : (from at end count : ℕ) (old mid new : Disk) → IsPart from end at count → Reaches end old → AddsTorn (zeros_write at count) mid new → Erases from at old mid
    → AreSectorWrites (length old.base) old.writes → AreSectorWrites (length new.base) new.writes
sectors-add from at end count old mid new part room adds is whole =
    adds.sectors (part-sectors (length mid.base) from end at count part (omega (arith, ap length is.base, room.base))) (is.sectors whole)

-- a sector that a list of writes covers with one more at its end
pub covered-push : (writes : List Write) (write : Write) (k : ℕ) → IsCovered (writes ++ write ∷ []) k
    → IsCovered writes k ⊎ Covers write k
covered-push [] write k is = ⊎_elim (λ here. inr here) (λ none. absurd none) is
covered-push (first ∷ writes) write k is =
    ⊎_elim (λ here. inl (inl here)) (λ there. ⊎_elim (λ before. inl (inr before)) (λ last. inr last)
    (covered-push writes write k there)) is

-- a write that failed is among them or not
pub covered-fails : (write : Write) (old new : Disk) (k : ℕ) → FailsWrite write old new → IsCovered new.writes k
    → IsCovered old.writes k ⊎ Covers write k
covered-fails write old new k fails is =
    ⊎_elim (λ none. inl (subst (λ (ws : List Write). IsCovered ws k) none.0 is))
    (λ pending. covered-push old.writes write k (subst (λ (ws : List Write). IsCovered ws k) pending.0 is))
    fails.pending

-- what was covered already, or by the write of a piece, is so by the stretch
covered-more : (from at end count : ℕ) (old mid : Disk) (k : ℕ) → IsPart from end at count → Erases from at old mid
    → IsCovered mid.writes k ⊎ Covers (zeros_write at count) k → IsCovered old.writes k ⊎ IsIn from end k
covered-more from at end count old mid k part is either =
    ⊎_elim (λ before. ⊎_elim (λ old_k. inl old_k) (λ here. inr (wider-in from at end k (omega (arith, part.high)) here))
    (is.covered k before))
    (λ here. inr (covers-in from end at count k part here)) either

fails-length : (write : Write) (old new : Disk) → FailsWrite write old new → length new.reads ≡ length old.reads
fails-length write old new fails = ⊎_elim (λ none. ap length none.1) (λ pending. pending.1.same_length) fails.pending

pub erases-failed : (from end at count : ℕ) (old mid new : Disk) → IsPart from end at count → Reaches end old → Erases from at old mid
    → FailsWrite (zeros_write at count) mid new → Erases from end old new
erases-failed from end at count old mid new part room is fails =
    let adds : AddsTorn (zeros_write at count) mid new = fails-torn (zeros_write at count) mid new fails in
    record {
      base = fails.base ∙ is.base;
      same_length = fails-length (zeros_write at count) mid new fails ∙ is.same_length;
      sectors = sectors-add from at end count old mid new part room adds is;
      covered = λ k now. covered-more from at end count old mid k part is
          (covered-fails (zeros_write at count) mid new k fails now);
      each = each-adds from at end count old mid new part adds is;
    }

-- AFTER A GOOD WRITE.

pub erased-none : (from : ℕ) (old : Disk) → HasErased from from old old
erased-none from old = record {
  erases = record {
    base = refl;
    same_length = refl;
    sectors = λ whole. whole;
    covered = λ k now. inl now;
    each =
        λ k bytes stands. inl stands;
  };
  zeros = λ k is. absurd (omega (arith, is.low, is.high));
  others = λ k apart. refl;
}

pub erased-more : (from at count : ℕ) (old mid : Disk) → IsPart from (at + count) at count → Reaches (at + count) old → HasErased from at old mid
    → HasErased from (at + count) old (written mid (zeros_write at count))
erased-more from at count old mid part room is =
    let write : Write = zeros_write at count in
    let long : length (replicate {A = ℕ} count 0) ≡ count = length-zeros count in
    let adds : AddsTorn write mid (written mid write) = adds-torn write mid in
    let sectors : IsSectorWrite (length mid.reads) write =
    part-sectors (length mid.reads) from (at + count) at count part (omega (arith, is.erases.same_length, room.reads)) in
    record {
      erases = record {
        base = is.erases.base;
        same_length = length-overwritten at (replicate count 0) mid.reads sectors.within ∙ is.erases.same_length;
        sectors = sectors-add from at (at + count) count old mid (written mid write) part room adds is.erases;
        covered = λ k now. covered-more from at (at + count) count old mid k part is.erases
            (covered-push mid.writes write k now);
        each = each-adds from at (at + count) count old mid (written mid write) part adds is.erases;
      };
      zeros = λ k inside. ⊎_elim
          (λ before. ⊎_elim (λ here. here.1 ∙ puts-zeros at count k here.0) (λ same. same ∙ is.zeros k (record { low = inside.low; high = before }))
          (sector-after_write mid.reads write k sectors))
          (λ from_at. (
          let covers : Covers write k = record { from = from_at; up_to = omega (arith, inside.high, part.range.from_sector, part.range.whole_sectors) } in
          part-overwritten_inside 512 (512 * k) at (replicate count 0) mid.reads from_at covers.up_to sectors.within ∙ puts-zeros at count k covers))
          (cases_lt (512 * k) at);
      others = λ k apart. ⊎_elim (λ here. absurd (apart (covers-in from (at + count) at count k part here.0)))
          (λ same. same ∙ is.others k (λ before. apart (wider-in from at (at + count) k (omega arith) before)))
          (sector-after_write mid.reads write k sectors);
    }

-- ON A LOG DEVICE THAT WAS AT REST.

pub rests-reaches : (end : ℕ) (disk : Disk) → IsAtRestTo end disk → Reaches end disk
rests-reaches end disk is = record { base = omega (arith, is.long, is.rests.reads.same_length); reads = is.long }

pub erases-in : (from end : ℕ) (old new : Disk) → IsAtRestTo end old → Erases from end old new → ErasesIn from end old.reads new
erases-in from end old new rests is image fair =
    let base : length image ≡ length old.base = fair.possible.same_length ∙ ap length is.base in
    let reads : length old.reads ≡ length old.base = rests.rests.reads.same_length in
    let whole : AreSectorWrites (length new.base) new.writes = is.sectors rests.rests.sectors in
    record {
      same_length = base ∙ sym reads;
      each = λ k. ⊎_elim
          (λ inside. ⊎_elim (λ before. inl (rests-stands old k (sector k image) rests.rests before)) (λ here. inr here)
          (is.each k (sector k image) (stands-sector new image k whole fair (omega (arith, ap length is.base)))))
          (λ past. inl (past-end k image (omega arith) ∙ sym (past-end k old.reads (omega arith))))
          (cases_lt (512 * k) (length old.base));
    }

pub has-zeros : (from end : ℕ) (old mid : Disk) → HasErased from end old mid → HasZeros from end old.reads (synced mid)
has-zeros from end old mid is = record { nothing_pending = refl; same_length = is.erases.same_length; zeros = is.zeros; others = is.others }

pub zeros-erased : (from end : ℕ) (content : List ℕ) (disk : Disk) → HasZeros from end content disk → IsErased (IsIn from end) content disk.base
zeros-erased from end content disk is = record {
  same_length = is.same_length;
  gone = λ k inside. ap fits_checksum (is.zeros k inside) ∙ zeros-unsealed;
  others = is.others;
}

-- each sector is in the stretch or not
in-or-not : (from end k : ℕ) → IsIn from end k ⊎ (IsIn from end k → ⊥)
in-or-not from end k =
    ⊎_elim (λ below. inr (λ is. absurd (omega (arith, is.low))))
    (λ low. ⊎_elim (λ high. inl (record { low = low; high = high })) (λ past. inr (λ is. absurd (omega (arith, is.high)))) (cases_lt (512 * k) end)) (cases_lt (512 * k) from)

pub zeros-erases : (from end : ℕ) (content : List ℕ) (disk : Disk) → HasZeros from end content disk → ErasesIn from end content disk
zeros-erases from end content disk is image fair =
    let erased : IsErased (IsIn from end) content disk.base = zeros-erased from end content disk is in
    let erasing : IsErasing (IsIn from end) content disk.base = record {
      same_length = is.same_length;
      each = λ k. ⊎_elim (λ inside. inr (inside, erased.gone k inside)) (λ outside. inl (is.others k outside)) (in-or-not from end k);
    } in
    subst (IsErasing (IsIn from end) content) (sym (settled-image disk image is.nothing_pending fair.possible)) erasing
