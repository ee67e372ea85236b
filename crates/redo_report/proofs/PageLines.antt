-- The lines of pages, one page on.
use Rattle.std.proofs.Common.{ℕ, ◌≡◌, ◌+◌, ◌<◌, ◌≤◌, List, ◌∷◌, ◌++◌, length, drop, get_or, ap, sym, ◌∙◌, append-nil, append_assoc, rules, tests}
use Rattle.std.proofs.lemmas.List.{at_drop_more, at_drop_all}
use Rattle.model_report.specs.{page_line, page_lines_from}
use Rattle.model_page.specs.declared.content.Content.{Content}

lines_of_page : (p : ℕ) (page : Content) (pages : List Content) → 0 < page.lsn → page_lines_from p (page ∷ pages) ≡ page_line p page ++ page_lines_from (p + 1) pages
lines_of_page p page pages written = search (rules, tests)

no_lines_of_page : (p : ℕ) (page : Content) (pages : List Content) → page.lsn ≤ 0 → page_lines_from p (page ∷ pages) ≡ page_lines_from (p + 1) pages
no_lines_of_page p page pages blank = search (rules, tests)

-- a page that a group has changed
pub page_lines_written : (text : List ℕ) (pages : List Content) (p : ℕ) (page : Content) → p < length pages → page ≡ get_or pages p page → 0 < page.lsn → text ++ page_lines_from p (drop p pages) ≡ (text ++ page_line p page) ++ page_lines_from (p + 1) (drop (p + 1) pages)
page_lines_written text pages p page below is written =
    let next = at_drop_more (λ pages. page_lines_from p pages) pages p page below in
    let here = ap (λ (page : Content). page_lines_from p (page ∷ drop (p + 1) pages)) (sym is) in
    ap (λ lines. text ++ lines) (next ∙ here ∙ lines_of_page p page (drop (p + 1) pages) written)
    ∙ sym (append_assoc text (page_line p page) (page_lines_from (p + 1) (drop (p + 1) pages)))

-- a page that none has changed
pub page_lines_blank : (text : List ℕ) (pages : List Content) (p : ℕ) (page : Content) → p < length pages → page ≡ get_or pages p page → page.lsn ≤ 0 → text ++ page_lines_from p (drop p pages) ≡ text ++ page_lines_from (p + 1) (drop (p + 1) pages)
page_lines_blank text pages p page below is blank =
    let next = at_drop_more (λ pages. page_lines_from p pages) pages p page below in
    let here = ap (λ (page : Content). page_lines_from p (page ∷ drop (p + 1) pages)) (sym is) in
    ap (λ lines. text ++ lines) (next ∙ here ∙ no_lines_of_page p page (drop (p + 1) pages) blank)

-- after the last page there are no lines
pub page_lines_end : (text : List ℕ) (pages : List Content) (p : ℕ) → length pages ≤ p → text ++ page_lines_from p (drop p pages) ≡ text
page_lines_end text pages p over =
    ap (λ lines. text ++ lines) (at_drop_all (λ pages. page_lines_from p pages) pages p over) ∙ append-nil text

pub ruleset page_steps = (page_lines_written, page_lines_blank, page_lines_end)
