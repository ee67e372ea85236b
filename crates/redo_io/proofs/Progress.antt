-- How far a loop of writes or of reads has come.
use Rattle.std.proofs.Common.{◌≡◌, ℕ, ◌+◌, ◌-◌, ◌≤◌, ◌<◌, List, ◌++◌, length, take, drop, [], Option, None, Some, IfSome, Result, Ok, Err, IfOk, ◌∷◌, refl, sym, ap, subst, ◌∙◌, arith, append_assoc}
use Rattle.std.proofs.lemmas.Option.{none-some, same_Some}
use Rattle.std.proofs.Math.Seq.{take-add}
use Rattle.std.proofs.lemmas.List.{length-drop, length-take-le, length-append, drop-drop, take_all, append-nil}
use Rattle.std.proofs.lemmas.Fn.{FoldsTo-push}
use Rattle.std.specs.List.{FoldsTo, concat}
use Rattle.std.proofs.lemmas.List.Folds.{concat-append}
use Rattle.redo_io.specs.Reads.{ReadRelation, GivesPiece, LastRead, IsReadThrough}
use Rattle.redo_io.specs.Ends.{with_taken}
use Rattle.redo_io.specs.Writes.{TakesSome, Writing}
use Rattle.redo_io.specs.Steps.{TakesFront}
use Rattle.redo_io.specs.declared.fault.ReadFault.{ReadFault}

-- a sink has taken all of the bytes but the rest
pub record HasWritten (old : Option (List ℕ)) (bytes rest : List ℕ) (now : Option (List ℕ)) : Type 0 where
  pub short : length rest ≤ length bytes
  pub rest_is : rest ≡ drop (length bytes - length rest) bytes
  pub taken : now ≡ with_taken old (take (length bytes - length rest) bytes)

with_taken-with_taken : (old : Option (List ℕ)) (first second : List ℕ) → with_taken (with_taken old first) second ≡ with_taken old (first ++ second)
with_taken-with_taken None first second = refl
with_taken-with_taken (Some taken) first second = ap Some (append_assoc taken first second)

-- the sink took the front of the rest
pub HasWritten_more : (old : Option (List ℕ)) (bytes rest : List ℕ) (now new : Option (List ℕ)) (n : ℕ) → HasWritten old bytes rest now → n ≤ length rest
    → new ≡ with_taken now (take n rest) → HasWritten old bytes (drop n rest) new
HasWritten_more old bytes rest now new n written few taken =
    let done = length bytes - length rest in
    let left : length (drop n rest) ≡ length rest - n = length-drop n rest in
    let short = written.short in
    let step : length bytes - length (drop n rest) ≡ done + n = omega arith in
    let more : take done bytes ++ take n rest ≡ take (done + n) bytes =
    ap (λ (xs : List ℕ). take done bytes ++ take n xs) written.rest_is ∙ sym (take-add done n bytes) in
    record {
      short = omega arith;
      rest_is = ap (drop n) written.rest_is ∙ drop-drop n done bytes ∙ ap (λ k. drop k bytes) (sym step);
      taken = taken ∙ ap (λ known. with_taken known (take n rest)) written.taken ∙ with_taken-with_taken old (take done bytes) (take n rest)
          ∙ ap (with_taken old) (more ∙ ap (λ k. take k bytes) (sym step));
    }

-- what the source gave first is all that it gave, and then it gave more
pub TakesFront_more : (old now new : Option (List ℕ)) (text out : List ℕ) (n : ℕ) → TakesFront old now (length text) text → n ≤ length out → TakesFront now new n out
    → TakesFront old new (length (text ++ take n out)) (text ++ take n out)
TakesFront_more None None new text out n first fits second = second
TakesFront_more None (Some rest) new text out n first fits second = absurd (none-some rest (sym first))
TakesFront_more (Some bytes) None new text out n first fits second = absurd (none-some _ first.2)
TakesFront_more (Some bytes) (Some rest) new text out n first fits second =
    let done = length text in
    let is : rest ≡ drop done bytes = same_Some _ _ first.2 in
    let left : length rest ≡ length bytes - done = ap length is ∙ length-drop done bytes in
    let text_is : text ≡ take done bytes = sym (take_all done text (omega arith)) ∙ first.1 in
    let all_is : text ++ take n out ≡ take (done + n) bytes =
    ap (λ xs. xs ++ take n out) text_is ∙ ap (λ xs. take done bytes ++ xs) (second.1 ∙ ap (take n) is) ∙ sym (take-add done n bytes) in
    let long : length (text ++ take n out) ≡ done + n =
    length-append text (take n out) ∙ ap (λ k. done + k) (length-take-le n out fits) in
    let few = first.0 in
    let few_more = second.0 in (
      omega arith,
      take_all _ (text ++ take n out) (omega arith) ∙ all_is ∙ ap (λ k. take k bytes) (sym long),
      second.2 ∙ ap (λ xs. Some (drop n xs)) is ∙ ap Some (drop-drop n done bytes ∙ ap (λ k. drop k bytes) (sym long)),
    )

-- a source that has nothing left gave all that it had
pub TakesFront_all : (old now : Option (List ℕ)) (text : List ℕ) → TakesFront old now (length text) text → IfSome now (λ bytes. bytes ≡ []) → IfSome old (λ bytes. text ≡ bytes)
TakesFront_all None now text first end = tt
TakesFront_all (Some bytes) None text first end = absurd (none-some _ first.2)
TakesFront_all (Some bytes) (Some rest) text first end =
    let is : rest ≡ drop (length text) bytes = same_Some _ _ first.2 in
    let none : length (drop (length text) bytes) ≡ 0 = ap length (sym is ∙ end) in
    let long : length bytes - length text ≡ 0 = sym (length-drop (length text) bytes) ∙ none in
    sym (take_all _ text (omega arith)) ∙ first.1 ∙ take_all _ bytes (omega arith)

-- reads of pieces gave this text so far
pub record HasRead {S : Type 0} (gives : ReadRelation S) (room : ℕ) (old : S) (text : List ℕ) (now : S) : Type 0 where
  pub pieces : List (List ℕ)
  pub reads : FoldsTo (GivesPiece gives room) old pieces now
  pub text_is : text ≡ concat pieces

-- one more piece
pub HasRead-more : {S : Type 0} (gives : ReadRelation S) (room length_of_buffer : ℕ) (old now new : S) (text out : List ℕ) (n : ℕ) → length_of_buffer ≡ room
    → HasRead gives room old text now → n ≤ length out → 0 < n → gives now length_of_buffer (Ok n) out new → HasRead gives room old (text ++ take n out) new
HasRead-more {S} gives room length_of_buffer old now new text out n room_is read fits some given =
    let piece = take n out in
    let long : length piece ≡ n = length-take-le n out fits in
    let here = subst (λ k. gives now k (Ok (length piece)) out new) room_is (subst (λ k. gives now length_of_buffer (Ok k) out new) (sym long) given) in
    record {
      pieces = read.pieces ++ piece ∷ [];
      reads = FoldsTo-push (GivesPiece gives room) old read.pieces now piece new read.reads (out, here, ap (λ k. take k out) (sym long), omega arith);
      text_is = ap (λ xs. xs ++ piece) read.text_is ∙ sym (concat-append read.pieces (piece ∷ []) ∙ ap (λ xs. concat read.pieces ++ xs) (append-nil piece));
    }

-- the reads are over
pub IsReadThrough-from : {S : Type 0} (gives : ReadRelation S) (room : ℕ) (old now new : S) (text : List ℕ) (result : Result (List ℕ) ReadFault) → HasRead gives room old text now
    → LastRead gives room now result new → IfOk result (λ whole. whole ≡ text) → IsReadThrough gives room old result new
IsReadThrough-from gives room old now new text (Ok whole) read last same = record {
  pieces = read.pieces;
  before_last = now;
  reads = read.reads;
  last = last;
  text = same ∙ read.text_is;
}
IsReadThrough-from gives room old now new text (Err _) read last same = record {
  pieces = read.pieces;
  before_last = now;
  reads = read.reads;
  last = last;
  text = tt;
}

-- writes took all of the bytes but the rest
pub record HasPut {S : Type 0} (gives : Writing S) (old : S) (bytes : List ℕ) (now : S) (rest : List ℕ) : Type 0 where
  pub counts : List ℕ
  pub writes : FoldsTo (TakesSome gives) (old, bytes) counts (now, rest)

-- one more write
pub HasPut-more : {S : Type 0} (gives : Writing S) (old now new : S) (bytes rest : List ℕ) (n : ℕ) → HasPut gives old bytes now rest → gives now rest (Ok n) new → 0 < n
    → HasPut gives old bytes new (drop n rest)
HasPut-more gives old now new bytes rest n put given some = record {
  counts = put.counts ++ n ∷ [];
  writes = FoldsTo-push (TakesSome gives) (old, bytes) put.counts (now, rest) n (new, drop n rest) put.writes (given, refl, some);
}
