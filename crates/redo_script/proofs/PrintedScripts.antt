-- A printed script is read as that script.
use Rattle.std.proofs.Common.{ℕ, ◌≡◌, ◌==◌, ◌+◌, false, List, [], ◌∷◌, ◌++◌, map, Some, Ok, refl, ap, ◌∙◌, append_assoc, arith}
use Rattle.std.specs.List.{AllByRecursion, enumerate_from}
use Rattle.std.proofs.lemmas.List.Elements.{All-head, All-tail}
use Rattle.model_base.specs.{fed_lines, lines_of, without_return}
use Rattle.model_script.specs.{is_skipped, IsScriptLine, script_from, script_line_of, script_line_text, script_of, script_text}
use Rattle.model_script.specs.declared.script.ScriptLine.{ScriptLine}
use Rattle.redo_script.proofs.PlainBytes.{apart_below}
use Rattle.redo_script.proofs.PrintedLines.{lacks_line_text, script_line_of-text}
use Rattle.redo_script.specs.Cut.{Lacks}

fed_lines-line : (line rest : List ℕ) → Lacks 10 line → fed_lines (line ++ 10 ∷ rest) ≡ line ∷ fed_lines rest
fed_lines-line [] rest lacks = refl
fed_lines-line (byte ∷ bytes) rest lacks =
    let other : (byte == 10) ≡ false = All-head (λ each. (each == 10) ≡ false) byte bytes lacks in
    rw (other, fed_lines-line bytes rest (All-tail (λ each. (each == 10) ≡ false) byte bytes lacks)) refl

without_return-none : (line : List ℕ) → Lacks 13 line → without_return line ≡ line
without_return-none [] lacks = refl
without_return-none (byte ∷ []) lacks =
    let other : (byte == 13) ≡ false = All-head (λ each. (each == 13) ≡ false) byte [] lacks in
    rw other refl
without_return-none (byte ∷ second ∷ bytes) lacks =
    let others = All-tail (λ each. (each == 13) ≡ false) byte (second ∷ bytes) lacks in
    ap (λ rest. byte ∷ rest) (without_return-none (second ∷ bytes) others)

-- the lines of a printed script are the texts of its lines
lines_of-script_text : (lines : List ScriptLine) → AllByRecursion IsScriptLine lines
    → lines_of (script_text lines) ≡ map script_line_text lines
unfolding lines_of script_text
lines_of-script_text [] are = refl
lines_of-script_text (line ∷ lines) are =
    let text = script_line_text line in
    let fed : fed_lines (script_text (line ∷ lines)) ≡ text ∷ fed_lines (script_text lines) =
    ap fed_lines (append_assoc text (10 ∷ []) (script_text lines))
    ∙ fed_lines-line text (script_text lines) (lacks_line_text 10 line (apart_below 10 (omega arith)) refl refl are.0) in
    let kept = without_return-none text (lacks_line_text 13 line (apart_below 13 (omega arith)) refl refl are.0) in
    ap (map without_return) fed
    ∙ ap (λ line. line ∷ lines_of (script_text lines)) kept
    ∙ ap (λ others. text ∷ others) (lines_of-script_text lines are.1)

-- a text that is a line and begins with no `#` counts
counts : (text : List ℕ) (line : ScriptLine) → Lacks 35 text → script_line_of text ≡ Some line → is_skipped text ≡ false
unfolding script_line_of
counts [] line lacks is = cc
counts (byte ∷ bytes) line lacks is = All-head (λ each. (each == 35) ≡ false) byte bytes lacks

script_from-texts : (n : ℕ) (lines : List ScriptLine) → AllByRecursion IsScriptLine lines
    → script_from (enumerate_from n (map script_line_text lines)) ≡ Ok lines
script_from-texts n [] are = refl
script_from-texts n (line ∷ lines) are =
    let is = script_line_of-text line are.0 in
    let counted = counts (script_line_text line) line (lacks_line_text 35 line (apart_below 35 (omega arith)) refl refl are.0) is in
    rw (counted, is, script_from-texts (n + 1) lines are.1) refl

pub script_of-text : (lines : List ScriptLine) → AllByRecursion IsScriptLine lines
    → script_of (script_text lines) ≡ Ok lines
unfolding script_of
script_of-text lines are =
    ap (λ texts. script_from (enumerate_from 1 texts)) (lines_of-script_text lines are) ∙ script_from-texts 1 lines are
