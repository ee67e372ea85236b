use Rattle.std.proofs.Common.{◌≡◌, ◌+◌, ℕ, zero, suc, [], ◌∷◌, ◌++◌, add-one, sym, ap, ◌∙◌, rules, arith}
use Rattle.std.specs.List.{range_with_len}
use Rattle.redo_papply.proofs.apply.numbers_of.Goals as goal

range-more : (a n m : ℕ) → m ≡ a + n → range_with_len a n ++ m ∷ [] ≡ range_with_len a (suc n)
range-more a zero m is = ap (λ k. k ∷ []) (omega (arith, is))
range-more a (suc n) m is = ap (λ l. a ∷ l) (range-more (a + 1) n m (omega (arith, is)))

pub loop-number-preserved : goal.loop-number-preserved
loop-number-preserved c =
    let n = c.loop-number.number in
    let pushed : c.push.new.self.items ≡ c.loop-number.numbers.items ++ n ∷ [] = search rules in
    pushed ∙ ap (λ l. l ++ n ∷ []) c.loop-number.invariant ∙ range-more 0 n n (omega arith) ∙ ap (range_with_len 0) (sym (add-one n))
