-- The lines of a script, one on.
use Rattle.std.proofs.Common.{ℕ, ◌≡◌, true, false, List, [], ◌∷◌, ◌++◌, Some, None, Result, Ok, Err, refl, ap, sym, append_assoc, append-nil}
use Rattle.model_script.specs.{is_skipped, script_from, script_line_of, with_line}
use Rattle.redo_script.specs.Progress.{after_lines}
use Rattle.model_script.specs.declared.script.ScriptLine.{ScriptLine}

after_lines-push : (done : List ScriptLine) (line : ScriptLine) (others : Result (List ScriptLine) ℕ) → after_lines done (with_line line others) ≡ after_lines (done ++ line ∷ []) others
after_lines-push done line (Ok others) = ap (λ lines. Ok lines) (sym (append_assoc done (line ∷ []) others))
after_lines-push done line (Err n) = refl

-- a line
pub after_line : (done : List ScriptLine) (text : ℕ × List ℕ) (texts : List (ℕ × List ℕ)) (line : ScriptLine) → is_skipped text.1 ≡ false → script_line_of text.1 ≡ Some line → after_lines done (script_from (text ∷ texts)) ≡ after_lines (done ++ line ∷ []) (script_from texts)
after_line done text texts line counts is = rw (counts, is) (after_lines-push done line (script_from texts))

-- a bad line
pub after_bad : (done : List ScriptLine) (text : ℕ × List ℕ) (texts : List (ℕ × List ℕ)) → is_skipped text.1 ≡ false → script_line_of text.1 ≡ None → after_lines done (script_from (text ∷ texts)) ≡ Err text.0
after_bad done text texts counts is = rw (counts, is) refl

-- a line that is skipped
pub after_skipped : (done : List ScriptLine) (text : ℕ × List ℕ) (texts : List (ℕ × List ℕ)) → is_skipped text.1 ≡ true → after_lines done (script_from (text ∷ texts)) ≡ after_lines done (script_from texts)
after_skipped done text texts skipped = rw skipped refl

-- the end
pub after_end : (done : List ScriptLine) → after_lines done (script_from []) ≡ Ok done
after_end done = ap (λ lines. Ok lines) (append-nil done)

pub ruleset steps = (after_line, after_bad, after_skipped, after_end)
