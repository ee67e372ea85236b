use Rattle.std.proofs.Common.{◌≡◌, ◌++◌, drop}
use Rattle.std.specs.String.{string_bytes}
use Rattle.model_report.specs.{page_lines_from}
use Rattle.redo_report.proofs.pages.push_pages.Given as goal

abbrev pub invariant-loop-number : goal.invariant-loop-number
invariant-loop-number l =
    string_bytes l.text ++ page_lines_from l.number (drop l.number l.pages) ≡ string_bytes l.initial.text ++ page_lines_from 0 l.pages
