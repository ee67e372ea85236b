-- What several writes leave on the device.
use Rattle.std.proofs.Common.{◌≡◌, ◌+◌, ℕ, zero, suc, List, [], ◌∷◌, ◌++◌, length, take, Some, refl, sym, ap, ◌∙◌, ⊎_elim, append_assoc, add-one, arith}
use Rattle.std.specs.List.{slice_get}
use Rattle.std.proofs.lemmas.List.{append-nil, take_all}
use Rattle.model_device.specs.{after_writes, settled, synced, written, Disk}
use Rattle.model_device.specs.declared.write.Write.{Write}
use Rattle.model_parts.specs.Steps.{written_all, ArePutOrNot}

pub written-one_more : (disk : Disk) (writes : List Write) (i : ℕ) (write : Write) → slice_get writes i ≡ Some write
    → written_all disk (take (i + 1) writes) ≡ written (written_all disk (take i writes)) write
written-one_more disk writes i write at = ap (λ n. written_all disk (take n writes)) (add-one i) ∙ go disk writes i write at
  where
    go : (disk : Disk) (writes : List Write) (i : ℕ) (write : Write) → slice_get writes i ≡ Some write → written_all disk (take (suc i) writes) ≡ written (written_all disk (take i writes)) write
    go disk [] i write at = absurd cc
    go disk (first ∷ writes) zero write at = let same : first ≡ write = cc in ap (written disk) same
    go disk (first ∷ writes) (suc i) write at = go (written disk first) writes i write at

pub record IsWritten (disk : Disk) (writes : List Write) (new : Disk) : Type 0 where
  pub base : new.base ≡ disk.base
  pub writes_are : new.writes ≡ disk.writes ++ writes
  pub reads : new.reads ≡ after_writes disk.reads writes

pub written-all : (disk : Disk) (writes : List Write) → IsWritten disk writes (written_all disk writes)
written-all disk [] = record { base = refl; writes_are = sym (append-nil disk.writes); reads = refl }
written-all disk (write ∷ writes) =
    let rest : IsWritten (written disk write) writes (written_all (written disk write) writes) = written-all (written disk write) writes in
    record {
      base = rest.base;
      writes_are = rest.writes_are ∙ append_assoc disk.writes (write ∷ []) writes;
      reads = rest.reads;
    }

take-push : (writes : List Write) (i : ℕ) (write : Write) → slice_get writes i ≡ Some write → take i writes ++ (write ∷ []) ≡ take (suc i) writes
take-push [] i write at = absurd cc
take-push (first ∷ writes) zero write at = let same : first ≡ write = cc in ap (λ w. w ∷ []) (sym same)
take-push (first ∷ writes) (suc i) write at = ap (λ ws. first ∷ ws) (take-push writes i write at)

-- so many of the writes are pending
pub record HasSome (old : Disk) (writes : List Write) (new : Disk) : Type 0 where
  pub base : new.base ≡ old.base
  pub count : ℕ
  pub pending : new.writes ≡ take count writes

pub some-pending : (old new : Disk) (writes : List Write) → old.writes ≡ [] → ArePutOrNot writes old new → HasSome old writes new
some-pending old new writes nothing calls =
    ⊎_elim (λ one.
    let before : IsWritten old (take one.i writes) (written_all old (take one.i writes)) = written-all old (take one.i writes) in
    let none : (ws : List Write) → old.writes ++ ws ≡ ws = λ ws. ap (λ l. l ++ ws) nothing in
    ⊎_elim (λ not. record { base = one.fails.base ∙ before.base; count = one.i; pending = not.0 ∙ before.writes_are ∙ none (take one.i writes) })
    (λ done. record {
      base = one.fails.base ∙ before.base;
      count = suc one.i;
      pending = done.0 ∙ ap (λ l. l ++ (one.write ∷ [])) (before.writes_are ∙ none (take one.i writes)) ∙ take-push writes one.i one.write one.at;
    }) one.fails.pending)
    (λ all.
    let whole : IsWritten old writes (written_all old writes) = written-all old writes in
    record {
      base = ap (λ (d : Disk). d.base) all ∙ whole.base;
      count = length writes;
      pending = ap (λ (d : Disk). d.writes) all ∙ whole.writes_are ∙ ap (λ l. l ++ writes) nothing ∙ sym (take_all (length writes) writes (omega arith));
    }) calls

-- after a sync of them
pub all-synced : (old : Disk) (writes : List Write) → synced (written_all old writes) ≡ settled (after_writes old.reads writes)
all-synced old writes = ap settled (written-all old writes).reads
