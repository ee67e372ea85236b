-- The calls by which an archive is begun: the pages, one more at a time.
use Rattle.std.proofs.Common.{◌≡◌, ◌+◌, ◌*◌, ℕ, zero, suc, List, [], ◌∷◌, ◌++◌, take, map, Result, Ok, Err, Some, None, sym, ap, refl, subst, ◌∙◌, add-one, arith}
use Rattle.std.specs.List.{slice_get}
use Rattle.std.specs.Prelude.{OnOk}
use Rattle.model_base.specs.declared.shape.Shape.{Shape}
use Rattle.model_device.specs.declared.write.Write.{Write}
use Rattle.model_page.specs.{page_text}
use Rattle.model_page.specs.declared.content.Content.{Content}
use Rattle.redo_archive.specs.Part.{base_writes, page_write}
use Rattle.redo_disk.specs.{Call, error_of, MakesCall, MakesCalls, Request, Serve, ToWrite, write_at, Writes}
use Rattle.redo_disk.specs.declared.error.DevError.{DevError}
use Rattle.redo_disk.proofs.Made.{call_serves, no_calls, serves_then}

-- the page after the first so many
pages-asked : (shape : Shape) (n : ℕ) (pages : List Content) (i : ℕ) (page : Content) → slice_get pages i ≡ Some page
    → map ToWrite (base_writes shape n (take i pages)) ++ ToWrite (page_write shape (n + i) page) ∷ []
    ≡ map ToWrite (base_writes shape n (take (suc i) pages))
pages-asked shape n [] i page at = absurd cc
pages-asked shape n (first ∷ pages) zero page at =
    let same : first ≡ page = cc in
    let place : n + 0 ≡ n = omega arith in
    ap (λ (k : ℕ). ToWrite (page_write shape k page) ∷ []) place
    ∙ ap (λ (c : Content). ToWrite (page_write shape n c) ∷ []) (sym same)
pages-asked shape n (first ∷ pages) (suc i) page at =
    let place : n + suc i ≡ n + 1 + i = omega arith in
    ap (λ (l : List Request). ToWrite (page_write shape n first) ∷ l)
    (ap (λ (k : ℕ). map ToWrite (base_writes shape (n + 1) (take i pages)) ++ ToWrite (page_write shape k page) ∷ [])
    place ∙ pages-asked shape (n + 1) pages i page at)

module _ {D : Type 0} (gives : D → Call → D → Type 0) where
  -- no page yet
  pub pages-none : (device : D) → MakesCalls gives device device (Serve [] None)
  pages-none device = no_calls gives device (Serve [] None)
      (record { ends = refl; rest = []; asked = refl; all = λ none. refl })

  -- one more of the pages
  pub pages-more : (old middle new : D) (shape : Shape) (pages : List Content) (p at : ℕ) (page : Content)
      (text : List ℕ) (done : Unit {0})
      → slice_get pages p ≡ Some page → at ≡ 1536 + p * shape.page_size
      → text ≡ page_text p shape.space page.lsn page.user
      → MakesCalls gives old middle (Serve (map ToWrite (base_writes shape 0 (take p pages))) None)
      → MakesCall gives middle (Writes (write_at at text) (Ok done)) new
      → MakesCalls gives old new (Serve (map ToWrite (base_writes shape 0 (take (p + 1) pages))) None)
  pages-more old middle new shape pages p at page text done there at_is text_is before given =
      let front : List Request = map ToWrite (base_writes shape 0 (take p pages)) in
      let count : p ≡ 0 + p = omega arith in
      let is : write_at at text ≡ page_write shape (0 + p) page =
      ap (λ (n : ℕ). write_at n text) at_is ∙ ap (write_at (1536 + p * shape.page_size)) text_is
      ∙ ap (λ (k : ℕ). page_write shape k page) count in
      let asked : front ++ ToWrite (write_at at text) ∷ [] ≡ map ToWrite (base_writes shape 0 (take (p + 1) pages)) =
      ap (λ (w : Write). front ++ ToWrite w ∷ []) is ∙ pages-asked shape 0 pages p page there
      ∙ ap (λ (n : ℕ). map ToWrite (base_writes shape 0 (take n pages))) (sym (add-one p)) in
      subst (λ (l : List Request). MakesCalls gives old new (Serve l None)) asked (serves_then before (call_serves given))

  -- where the answer is Ok, none of the calls answered an error
  pub calls-ok : (old new : D) (asked : List Request) (result : Result (Unit {0}) DevError)
      → MakesCalls gives old new (Serve asked (error_of result)) → OnOk result (MakesCalls gives old new (Serve asked None))
  calls-ok old new asked (Ok done) made = made
  calls-ok old new asked (Err error) made = tt
