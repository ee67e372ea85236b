-- What is read off two devices is determined.
use Rattle.std.proofs.Common.{◌≡◌, ℕ, List, sym, ap, subst, ◌∙◌}
use Rattle.model_base.specs.declared.shape.Shape.{Shape}
use Rattle.model_log.specs.declared.group.Whole.{Whole}
use Rattle.model_log.specs.declared.block.BlockView.{BlockView}
use Rattle.model_log.specs.{layout_of, newest_checkpoint}
use Rattle.model_log.specs.declared.head.Format.{Format}
use Rattle.model_log.specs.declared.layout.Layout.{Layout}
use Rattle.model_page.specs.declared.content.Content.{Content}
use Rattle.model_store.specs.Scan.{IsScan, taken, Reading, IsReading, HasScan, HasHead, IsReadPage, replayed}
use Rattle.model_store.specs.Found.{AreReadPages}
use Rattle.model_store.proofs.Places.{same_places, same_some}
use Rattle.model_store.proofs.OneScan.{OneGroup, same_scan}
use Rattle.model_page.proofs.Kept.{same_kept}

-- a log device names one format and one shape
pub same_head : (log : List ℕ) (f g : Format) (s t : Shape) → HasHead log f s → HasHead log g t → (f ≡ g) × (s ≡ t)
same_head log f g s t a b = (cc (a.head, b.head), cc (a.head, b.head))

-- a page is read in one way
pub same_page : (shape : Shape) (data_bytes : List ℕ) (wholes : List Whole) (end p : ℕ) (x y : Content)
    → IsReadPage shape data_bytes wholes end p x → IsReadPage shape data_bytes wholes end p y → x ≡ y
same_page shape data_bytes wholes end p x y a b =
    let kept : a.kept ≡ b.kept = same_kept shape data_bytes p a.kept b.kept a.is_kept b.is_kept in
    a.replay ∙ ap (λ (c : Content). replayed p c.lsn wholes c) kept ∙ sym b.replay

-- what is found on two devices before the pages are read
pub record Found : Type 0 where
  pub format : Format
  pub shape : Shape
  pub number : ℕ
  pub ckpt : ℕ
  pub views : List BlockView
  pub wholes : List Whole
  pub end : ℕ

pub HasFound : List ℕ → List ℕ → Found → Type 0
HasFound log data_bytes found = HasScan log data_bytes found.format found.shape found.number found.ckpt found.views found.wholes found.end

-- it is determined
pub same_found : OneGroup → (log data_bytes : List ℕ) (a b : Found) → HasFound log data_bytes a → HasFound log data_bytes b → a ≡ b
unfolding HasFound
same_found one log data_bytes a b x y =
    let head = same_head log a.format b.format a.shape b.shape x.devices.head y.devices.head in
    let format : a.format ≡ b.format = head.0 in
    let shape : a.shape ≡ b.shape = head.1 in
    let moved = subst (λ (s : Shape). HasScan log data_bytes b.format s b.number b.ckpt b.views b.wholes b.end) (sym shape) y in
    let again = subst (λ (f : Format). HasScan log data_bytes f a.shape b.number b.ckpt b.views b.wholes b.end) (sym format) moved in
    let layout : Layout = layout_of a.format a.shape in
    let newest = same_some (newest_checkpoint layout log) (a.number, a.ckpt) (b.number, b.ckpt) x.checkpoint again.checkpoint in
    let number : a.number ≡ b.number = ap (λ pair. pair.0) newest in
    let ckpt : a.ckpt ≡ b.ckpt = ap (λ pair. pair.1) newest in
    let scan = subst (λ from. IsScan a.shape layout.blocks (taken layout log) from b.views b.wholes b.end) (sym ckpt) again.scan in
    let same = same_scan one a.shape layout.blocks (taken layout log) a.ckpt a.views b.views a.wholes b.wholes a.end b.end x.scan scan in
    λ i. record { format = format i; shape = shape i; number = number i; ckpt = ckpt i; views = same.0 i; wholes = same.1 i; end = same.2 i }

-- what a reading found
abbrev found_of : Reading → Found
found_of reading = record { format = reading.format; shape = reading.shape; number = reading.number; ckpt = reading.ckpt; views = reading.views; wholes = reading.wholes; end = reading.end }

-- the pages that are read for it
abbrev AreFoundPages : List ℕ → Found → List Content → Type 0
AreFoundPages data_bytes found pages = AreReadPages found.shape data_bytes found.wholes found.end pages

-- they are determined
same_pages : (data_bytes : List ℕ) (found : Found) (xs ys : List Content) → AreFoundPages data_bytes found xs → AreFoundPages data_bytes found ys → xs ≡ ys
same_pages data_bytes found xs ys a b =
    same_places xs ys (a.count ∙ sym b.count)
    (λ p x y i j. same_page found.shape data_bytes found.wholes found.end p x y (a.each p x i) (b.each p y j))

-- what is read off two devices is determined
pub same_reading : OneGroup → (log data_bytes : List ℕ) (first second : Reading) → IsReading log data_bytes first → IsReading log data_bytes second → first ≡ second
unfolding HasFound
same_reading one log data_bytes first second a b =
    let found : found_of first ≡ found_of second = same_found one log data_bytes (found_of first) (found_of second) a.scan b.scan in
    let left : AreFoundPages data_bytes (found_of first) first.pages = record { count = a.count; each = a.each } in
    let right : AreFoundPages data_bytes (found_of second) second.pages = record { count = b.count; each = b.each } in
    let pages = same_pages data_bytes (found_of first) first.pages second.pages left
    (subst (λ (f : Found). AreFoundPages data_bytes f second.pages) (sym found) right) in
    λ i. record {
      format = (found i).format;
      shape = (found i).shape;
      number = (found i).number;
      ckpt = (found i).ckpt;
      views = (found i).views;
      wholes = (found i).wholes;
      end = (found i).end;
      pages = pages i;
    }
