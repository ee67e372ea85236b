-- An orderly store is one that a part can begin with.
use Rattle.std.proofs.Common.{◌≡◌, ◌<◌, ℕ, inl, inr, List, Some, ⊎_elim, arith}
use Rattle.std.specs.List.{slice_get}
use Rattle.std.proofs.lemmas.Bool.{cases_lt}
use Rattle.std.proofs.lemmas.Option.{slice_get-get_or}
use Rattle.model_page.specs.{blank_page, IsInPlace}
use Rattle.model_page.specs.declared.content.Content.{Content}
use Rattle.model_device.specs.{settled, Disk}
use Rattle.model_store.specs.{IsNoNewerCopy, IsOrderly, Reading}
use Rattle.model_parts.specs.Stored.{copied, IsOpened, read_as}
use Rattle.model_page.proofs.Kept.{same_content}

pub orderly-opened : (log : List ℕ) (reading : Reading) (was : ℕ → Content) (disk : Disk) → IsOrderly log disk.base reading → disk ≡ settled disk.base
    → ((p : ℕ) → p < reading.shape.pages → IsInPlace reading.shape disk.base p (was p)) → IsOpened reading.shape (read_as reading) was disk
orderly-opened log reading was disk orderly nothing places = record {
  long = orderly.reads.scan.devices.data_long;
  nothing_pending = nothing;
  places = places;
  known = λ p slot lsn page below passes.
      let top : Content = read_as reading p in
      let at : slice_get reading.pages p ≡ Some top = slice_get-get_or reading.pages p (blank_page reading.shape) (omega (arith, orderly.reads.count)) in
      let copy : IsNoNewerCopy reading.shape disk.base slot lsn top = orderly.copies p slot lsn top below at passes in
      ⊎_elim (λ less. inl less) (λ not_less.
      let equal : lsn ≡ top.lsn = omega (arith, copy.no_newer) in
      inr (same_content (copied reading.shape disk.base slot lsn) top equal (copy.same equal))) (cases_lt lsn top.lsn);
}
