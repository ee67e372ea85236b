-- The row at the first byte, if there is one.
use Rattle.std.proofs.Common.{◌≡◌, ◌≤◌, List, [], ◌∷◌, ℕ, length, slice_index, Some, None, arith}
use Rattle.std.specs.List.{slice_get}
use Rattle.model_base.specs.{Gives, Spells32}
use Rattle.model_base.specs.declared.got.Got.TheVariants.{Short}
use Rattle.redo_num.proofs.ReadLemmas.{read_empty, read_none, read_one, read_row}
use Rattle.redo_num.proofs.get.get32.Goals as goal

none_at : (bytes : List ℕ) → None ≡ slice_get bytes 0 → Gives Spells32 bytes Short
none_at [] is = read_empty
none_at (x ∷ bytes) is = cc

some_at : (bytes : List ℕ) (byte : ℕ) → Some byte ≡ slice_get bytes 0 → (1 ≤ length bytes) × (slice_index bytes 0 ≡ byte)
some_at [] byte is = cc
some_at (x ∷ bytes) byte is = (omega arith, cc)

pub returns-in_default : goal.returns-in_default
returns-in_default c = none_at c.args.bytes.now c.in_default.ensures.value

pub returns-in-Some-row_beginning_with : goal.returns-in-Some-row_beginning_with
returns-in-Some-row_beginning_with c =
    let bytes = c.args.bytes.now in
    let first = some_at bytes c.in-Some.first.now c.in-Some.ensures.value in
    read_row c.in-Some.first.now c.in-Some-row_beginning_with.row c.in-Some-row_beginning_with.ensures bytes first.0 first.1 c.read_in.result c.read_in.ensures

pub returns-in-None : goal.returns-in-None
returns-in-None c =
    let bytes = c.args.bytes.now in
    let first = some_at bytes c.in-Some.first.now c.in-Some.ensures.value in
    read_none c.in-Some.first.now c.in-None.ensures bytes first.0 first.1

pub returns-then-first-lt-MARKED : goal.returns-then-first-lt-MARKED
returns-then-first-lt-MARKED c =
    let bytes = c.args.bytes.now in
    let first = some_at bytes c.in-Some.first.now c.in-Some.ensures.value in
    rw c.from.ensures (read_one c.in-Some.first.now bytes c.if-first-lt-MARKED.true first.0 first.1)
