-- Two devices are read, or refused for one cause: the judging in its order, in which each step leaves one way.
use Rattle.std.proofs.Common.{◌≡◌, ℕ, ◌<◌, ◌≤◌, ◌⊎◌, inl, inr, List, length, Option, Some, None, arith, refl, sym, ap, ap₂, subst, ◌∙◌}
use Rattle.model_base.specs.declared.shape.Shape.{Shape}
use Rattle.model_log.specs.declared.group.Whole.{Whole}
use Rattle.model_log.specs.{head_of, IsFront, last_span_end, layout_of, log_device_length, newest_checkpoint, spans_of}
use Rattle.model_log.specs.declared.head.Format.{Format}
use Rattle.model_log.specs.declared.block.BlockView.{BlockView}
use Rattle.model_log.specs.declared.head.Head.{Head}
use Rattle.model_log.specs.declared.head.Head.TheVariants.{Good, OtherFormat, Unformatted}
use Rattle.model_log.specs.declared.layout.TheConstants.{HEADER_BYTES}
use Rattle.model_page.specs.declared.content.Content.{Content}
use Rattle.model_page.specs.{data_device_length, IsLost}
use Rattle.model_store.specs.declared.refusal.Refusal.{Refusal}
use Rattle.model_store.specs.declared.refusal.Refusal.TheVariants.{SmallLog, NotFormatted, BadFormat, SmallData, NoCheckpoint, BadRecord, PageLost, PageAhead}
use Rattle.model_store.specs.Scan.{IsScan, IsBadRecord, AreGroups, AreGroupsOf, groups_start, data_from, Source, taken, Reading, IsReading, Refuses, HasScan, HasHead, HasDevices, IsScanned, IsKeptAt, AreKeptBelow, AreNotAheadBelow}
use Rattle.model_store.proofs.Places.{has_place, same_some}
use Rattle.model_store.proofs.OneScan.{OneGroup, same_scan, same_blocks, same_groups, front-no_storable}
use Rattle.model_page.proofs.Kept.{same_kept, kept-not_lost}

-- the pages are judged for being ahead
abbrev AheadAnswer : List ℕ → Shape → ℕ → Option Refusal → Type 0
AheadAnswer data_bytes shape end o =
    ((p : ℕ) × (lsn : ℕ) × (p < shape.pages) × IsKeptAt shape data_bytes p lsn × (end < lsn) × AreNotAheadBelow shape data_bytes end p × (o ≡ Some (PageAhead p lsn)))
    ⊎ (AreNotAheadBelow shape data_bytes end shape.pages × (o ≡ None))

-- then for being lost
abbrev LostAnswer : List ℕ → Shape → ℕ → Option Refusal → Type 0
LostAnswer data_bytes shape end o =
    ((p : ℕ) × (p < shape.pages) × IsLost shape data_bytes p × AreKeptBelow shape data_bytes p × (o ≡ Some (PageLost p)))
    ⊎ (AreKeptBelow shape data_bytes shape.pages × AheadAnswer data_bytes shape end o)

-- before that the log
abbrev ScanAnswer : List ℕ → List ℕ → Format → Shape → ℕ → Option Refusal → Type 0
ScanAnswer log data_bytes format shape ckpt o =
    ((lsn : ℕ) × IsBadRecord shape (layout_of format shape).blocks (taken (layout_of format shape) log) ckpt lsn × (o ≡ Some (BadRecord lsn)))
    ⊎ ((views : List BlockView) × (wholes : List Whole) × (end : ℕ)
    × IsScan shape (layout_of format shape).blocks (taken (layout_of format shape) log) ckpt views wholes end × LostAnswer data_bytes shape end o)

abbrev CheckpointAnswer : List ℕ → List ℕ → Format → Shape → Option (ℕ × ℕ) → Option Refusal → Type 0
CheckpointAnswer log data_bytes format shape None o = o ≡ Some NoCheckpoint
CheckpointAnswer log data_bytes format shape (Some newest) o = ScanAnswer log data_bytes format shape newest.1 o

abbrev DataAnswer : List ℕ → List ℕ → Format → Shape → Option Refusal → Type 0
DataAnswer log data_bytes format shape o =
    ((length data_bytes < data_device_length shape) × (o ≡ Some (SmallData (data_device_length shape))))
    ⊎ ((data_device_length shape ≤ length data_bytes) × CheckpointAnswer log data_bytes format shape (newest_checkpoint (layout_of format shape) log) o)

abbrev LogAnswer : List ℕ → List ℕ → Format → Shape → Option Refusal → Type 0
LogAnswer log data_bytes format shape o =
    ((length log < log_device_length shape) × (o ≡ Some (SmallLog (log_device_length shape))))
    ⊎ ((log_device_length shape ≤ length log) × DataAnswer log data_bytes format shape o)

abbrev HeadAnswer : List ℕ → List ℕ → Head → Option Refusal → Type 0
HeadAnswer log data_bytes (Good format shape) o = LogAnswer log data_bytes format shape o
HeadAnswer log data_bytes (OtherFormat n) o = o ≡ Some (BadFormat n)
HeadAnswer log data_bytes Unformatted o = o ≡ Some NotFormatted

abbrev Answer : List ℕ → List ℕ → Option Refusal → Type 0
Answer log data_bytes o =
    ((length log < HEADER_BYTES) × (o ≡ Some (SmallLog HEADER_BYTES)))
    ⊎ ((HEADER_BYTES ≤ length log) × HeadAnswer log data_bytes (head_of log) o)

same_lsn : (shape : Shape) (data_bytes : List ℕ) (p m n : ℕ) → IsKeptAt shape data_bytes p m → IsKeptAt shape data_bytes p n → m ≡ n
same_lsn shape data_bytes p m n a b =
    a.same ∙ ap (λ (c : Content). c.lsn) (same_kept shape data_bytes p a.kept b.kept a.is_kept b.is_kept) ∙ sym b.same

same_ahead : (data_bytes : List ℕ) (shape : Shape) (end : ℕ) (o q : Option Refusal) → AheadAnswer data_bytes shape end o → AheadAnswer data_bytes shape end q → o ≡ q
same_ahead data_bytes shape end o q (inl (p, m, in_p, kept, ahead, below, is)) (inl (r, n, in_r, held, over, under, at)) =
    let up : p < r → ⊥ = λ h. (let no : m ≤ end = under p m h kept in omega arith) in
    let down : r < p → ⊥ = λ h. (let no : n ≤ end = below r n h held in omega arith) in
    let page : p ≡ r = omega (arith, up, down) in
    let lsn : m ≡ n = same_lsn shape data_bytes p m n kept (subst (λ k. IsKeptAt shape data_bytes k n) (sym page) held) in
    is ∙ ap₂ (λ k l. Some (PageAhead k l)) page lsn ∙ sym at
same_ahead data_bytes shape end o q (inl (p, m, in_p, kept, ahead, below, is)) (inr (fine, at)) =
    let no : m ≤ end = fine p m in_p kept in absurd (omega arith)
same_ahead data_bytes shape end o q (inr (fine, is)) (inl (r, n, in_r, held, over, under, at)) =
    let no : n ≤ end = fine r n in_r held in absurd (omega arith)
same_ahead data_bytes shape end o q (inr (fine, is)) (inr (well, at)) = is ∙ sym at

not_lost : (shape : Shape) (data_bytes : List ℕ) (p : ℕ) → (lsn : ℕ) × IsKeptAt shape data_bytes p lsn → IsLost shape data_bytes p → ⊥
not_lost shape data_bytes p (lsn, kept) lost = kept-not_lost shape data_bytes p kept.kept kept.is_kept lost

same_lost : (data_bytes : List ℕ) (shape : Shape) (end : ℕ) (o q : Option Refusal) → LostAnswer data_bytes shape end o → LostAnswer data_bytes shape end q → o ≡ q
same_lost data_bytes shape end o q (inl (p, in_p, lost, below, is)) (inl (r, in_r, gone, under, at)) =
    let up : p < r → ⊥ = λ h. not_lost shape data_bytes p (under p h) lost in
    let down : r < p → ⊥ = λ h. not_lost shape data_bytes r (below r h) gone in
    let page : p ≡ r = omega (arith, up, down) in
    is ∙ ap (λ k. Some (PageLost k)) page ∙ sym at
same_lost data_bytes shape end o q (inl (p, in_p, lost, below, is)) (inr (kept, rest)) = absurd (not_lost shape data_bytes p (kept p in_p) lost)
same_lost data_bytes shape end o q (inr (kept, rest)) (inl (p, in_p, lost, below, is)) = absurd (not_lost shape data_bytes p (kept p in_p) lost)
same_lost data_bytes shape end o q (inr (kept, rest)) (inr (held, more)) = same_ahead data_bytes shape end o q rest more

-- a log isn't both scanned and refused
pub scan-not_bad : OneGroup → (shape : Shape) (most : ℕ) (source : Source) (ckpt : ℕ) (views : List BlockView) (wholes : List Whole) (end lsn : ℕ)
    → IsScan shape most source ckpt views wholes end → IsBadRecord shape most source ckpt lsn → ⊥
scan-not_bad one shape most source ckpt views wholes end lsn scan bad =
    let same = same_blocks most source ckpt views bad.views scan.blocks bad.blocks in
    let groups = subst (λ xs. AreGroupsOf shape source ckpt xs (groups_start ckpt xs) wholes end) same scan.groups in
    let from = subst (λ o. AreGroupsOf shape source ckpt bad.views o wholes end) bad.starts groups in
    let parts = same_groups one shape (data_from source ckpt bad.views bad.start) bad.start wholes bad.wholes from.0 bad.rest
    from.1 bad.groups (front-no_storable one shape from.0 from.2) bad.no_storable in
    bad.no_rest (subst (λ rest. IsFront rest) parts.1 from.2)

same_bad : OneGroup → (shape : Shape) (most : ℕ) (source : Source) (ckpt m n : ℕ) → IsBadRecord shape most source ckpt m → IsBadRecord shape most source ckpt n → m ≡ n
same_bad one shape most source ckpt m n a b =
    let views = same_blocks most source ckpt a.views b.views a.blocks b.blocks in
    let start = same_some (groups_start ckpt a.views) a.start b.start a.starts (ap (groups_start ckpt) views ∙ b.starts) in
    let moved = subst (λ xs. AreGroups shape (data_from source ckpt xs b.start) b.start b.wholes b.rest) (sym views) b.groups in
    let groups = subst (λ from. AreGroups shape (data_from source ckpt a.views from) from b.wholes b.rest) (sym start) moved in
    let same = same_groups one shape (data_from source ckpt a.views a.start) a.start a.wholes b.wholes a.rest b.rest a.groups groups a.no_storable b.no_storable in
    a.at ∙ ap₂ last_span_end start (ap spans_of same.0) ∙ sym b.at

same_scanned : OneGroup → (log data_bytes : List ℕ) (format : Format) (shape : Shape) (ckpt : ℕ) (o q : Option Refusal) → ScanAnswer log data_bytes format shape ckpt o → ScanAnswer log data_bytes format shape ckpt q → o ≡ q
same_scanned one log data_bytes format shape ckpt o q (inl (m, bad, is)) (inl (n, wrong, at)) =
    is ∙ ap (λ l. Some (BadRecord l)) (same_bad one shape (layout_of format shape).blocks (taken (layout_of format shape) log) ckpt m n bad wrong) ∙ sym at
same_scanned one log data_bytes format shape ckpt o q (inl (m, bad, is)) (inr (views, wholes, end, scan, rest)) =
    absurd (scan-not_bad one shape (layout_of format shape).blocks (taken (layout_of format shape) log) ckpt views wholes end m scan bad)
same_scanned one log data_bytes format shape ckpt o q (inr (views, wholes, end, scan, rest)) (inl (m, bad, is)) =
    absurd (scan-not_bad one shape (layout_of format shape).blocks (taken (layout_of format shape) log) ckpt views wholes end m scan bad)
same_scanned one log data_bytes format shape ckpt o q (inr (views, wholes, end, scan, rest)) (inr (blocks, others, stop, other, more)) =
    let same = same_scan one shape (layout_of format shape).blocks (taken (layout_of format shape) log) ckpt views blocks wholes others end stop scan other in
    same_lost data_bytes shape end o q rest (subst (λ e. LostAnswer data_bytes shape e q) (sym same.2) more)

same_from : OneGroup → (log data_bytes : List ℕ) (format : Format) (shape : Shape) (newest : Option (ℕ × ℕ)) (o q : Option Refusal)
    → CheckpointAnswer log data_bytes format shape newest o → CheckpointAnswer log data_bytes format shape newest q → o ≡ q
same_from one log data_bytes format shape None o q a b = a ∙ sym b
same_from one log data_bytes format shape (Some newest) o q a b = same_scanned one log data_bytes format shape newest.1 o q a b

same_data : OneGroup → (log data_bytes : List ℕ) (format : Format) (shape : Shape) (o q : Option Refusal) → DataAnswer log data_bytes format shape o → DataAnswer log data_bytes format shape q → o ≡ q
same_data one log data_bytes format shape o q (inl (short, is)) (inl (less, at)) = is ∙ sym at
same_data one log data_bytes format shape o q (inl (short, is)) (inr (long, rest)) = absurd (omega arith)
same_data one log data_bytes format shape o q (inr (long, rest)) (inl (short, is)) = absurd (omega arith)
same_data one log data_bytes format shape o q (inr (long, rest)) (inr (enough, more)) =
    same_from one log data_bytes format shape (newest_checkpoint (layout_of format shape) log) o q rest more

same_log : OneGroup → (log data_bytes : List ℕ) (format : Format) (shape : Shape) (o q : Option Refusal) → LogAnswer log data_bytes format shape o → LogAnswer log data_bytes format shape q → o ≡ q
same_log one log data_bytes format shape o q (inl (short, is)) (inl (less, at)) = is ∙ sym at
same_log one log data_bytes format shape o q (inl (short, is)) (inr (long, rest)) = absurd (omega arith)
same_log one log data_bytes format shape o q (inr (long, rest)) (inl (short, is)) = absurd (omega arith)
same_log one log data_bytes format shape o q (inr (long, rest)) (inr (enough, more)) = same_data one log data_bytes format shape o q rest more

same_by_head : OneGroup → (log data_bytes : List ℕ) (head : Head) (o q : Option Refusal) → HeadAnswer log data_bytes head o → HeadAnswer log data_bytes head q → o ≡ q
same_by_head one log data_bytes (Good format shape) o q a b = same_log one log data_bytes format shape o q a b
same_by_head one log data_bytes (OtherFormat n) o q a b = a ∙ sym b
same_by_head one log data_bytes Unformatted o q a b = a ∙ sym b

same_answer : OneGroup → (log data_bytes : List ℕ) (o q : Option Refusal) → Answer log data_bytes o → Answer log data_bytes q → o ≡ q
same_answer one log data_bytes o q (inl (short, is)) (inl (less, at)) = is ∙ sym at
same_answer one log data_bytes o q (inl (short, is)) (inr (long, rest)) = absurd (omega arith)
same_answer one log data_bytes o q (inr (long, rest)) (inl (short, is)) = absurd (omega arith)
same_answer one log data_bytes o q (inr (long, rest)) (inr (enough, more)) =
    same_by_head one log data_bytes (head_of log) o q rest more

-- a store with a header is judged further by its shape
by_shape : (log data_bytes : List ℕ) (format : Format) (shape : Shape) (o : Option Refusal) → HasHead log format shape → LogAnswer log data_bytes format shape o → Answer log data_bytes o
by_shape log data_bytes format shape o head rest = inr (head.long, subst (λ h. HeadAnswer log data_bytes h o) (sym head.head) rest)

-- one whose devices are as long as that asks, by its checkpoint
by_devices : (log data_bytes : List ℕ) (format : Format) (shape : Shape) (o : Option Refusal) → HasDevices log data_bytes format shape
    → CheckpointAnswer log data_bytes format shape (newest_checkpoint (layout_of format shape) log) o → Answer log data_bytes o
by_devices log data_bytes format shape o devices rest =
    by_shape log data_bytes format shape o devices.head (inr (devices.log_long, inr (devices.data_long, rest)))

-- one with a scan, by its pages
by_scan : (log data_bytes : List ℕ) (format : Format) (shape : Shape) (number ckpt : ℕ) (views : List BlockView) (wholes : List Whole) (end : ℕ) (o : Option Refusal)
    → HasScan log data_bytes format shape number ckpt views wholes end → LostAnswer data_bytes shape end o → Answer log data_bytes o
by_scan log data_bytes format shape number ckpt views wholes end o scan rest =
    let found : ScanAnswer log data_bytes format shape ckpt o = inr (views, wholes, end, scan.scan, rest) in
    by_devices log data_bytes format shape o scan.devices
    (subst (λ newest. CheckpointAnswer log data_bytes format shape newest o) (sym scan.checkpoint) found)

by_scanned : (log data_bytes : List ℕ) (shape : Shape) (end : ℕ) (o : Option Refusal)
    → IsScanned log data_bytes shape end → LostAnswer data_bytes shape end o → Answer log data_bytes o
by_scanned log data_bytes shape end o scan rest =
    by_scan log data_bytes scan.format shape scan.number scan.ckpt scan.views scan.wholes end o scan.scan rest

-- a refusal is the answer
refusal_answers : (log data_bytes : List ℕ) (refusal : Refusal) → Refuses log data_bytes refusal → Answer log data_bytes (Some refusal)
refusal_answers log data_bytes (SmallLog n) (inl (short, is)) = inl (short, ap (λ k. Some (SmallLog k)) is)
refusal_answers log data_bytes (SmallLog n) (inr (format, shape, head, short, is)) =
    by_shape log data_bytes format shape (Some (SmallLog n)) head (inl (short, ap (λ k. Some (SmallLog k)) is))
refusal_answers log data_bytes NotFormatted (long, head) =
    inr (long, subst (λ h. HeadAnswer log data_bytes h (Some NotFormatted)) (sym head) refl)
refusal_answers log data_bytes (BadFormat n) (long, head) =
    inr (long, subst (λ h. HeadAnswer log data_bytes h (Some (BadFormat n))) (sym head) refl)
refusal_answers log data_bytes (SmallData n) (format, shape, head, long, short, is) =
    by_shape log data_bytes format shape (Some (SmallData n)) head (inr (long, inl (short, ap (λ k. Some (SmallData k)) is)))
refusal_answers log data_bytes NoCheckpoint (format, shape, devices, none) =
    by_devices log data_bytes format shape (Some NoCheckpoint) devices
    (subst (λ newest. CheckpointAnswer log data_bytes format shape newest (Some NoCheckpoint)) (sym none) refl)
refusal_answers log data_bytes (BadRecord lsn) (format, shape, number, ckpt, devices, newest, bad) =
    let found : ScanAnswer log data_bytes format shape ckpt (Some (BadRecord lsn)) = inl (lsn, bad, refl) in
    by_devices log data_bytes format shape (Some (BadRecord lsn)) devices
    (subst (λ o. CheckpointAnswer log data_bytes format shape o (Some (BadRecord lsn))) (sym newest) found)
refusal_answers log data_bytes (PageLost p) (shape, end, scan, within, lost, below) =
    by_scanned log data_bytes shape end (Some (PageLost p)) scan (inl (p, within, lost, below, refl))
refusal_answers log data_bytes (PageAhead p lsn) (shape, end, scan, all, within, kept, ahead, below) =
    by_scanned log data_bytes shape end (Some (PageAhead p lsn)) scan (inr (all, inl (p, lsn, within, kept, ahead, below, refl)))

-- every page that is read is kept, and isn't ahead
read-kept : (log data_bytes : List ℕ) (reading : Reading) → IsReading log data_bytes reading → AreKeptBelow reading.shape data_bytes reading.shape.pages
read-kept log data_bytes reading reads p within =
    let page = has_place reading.pages p (omega (arith, reads.count)) in
    let read = reads.each p page.0 page.1 in
    (read.kept.lsn, record { kept = read.kept; is_kept = read.is_kept; same = refl })

read-not_ahead : (log data_bytes : List ℕ) (reading : Reading) → IsReading log data_bytes reading
    → AreNotAheadBelow reading.shape data_bytes reading.end reading.shape.pages
read-not_ahead log data_bytes reading reads p lsn within kept =
    let page = has_place reading.pages p (omega (arith, reads.count)) in
    let read = reads.each p page.0 page.1 in
    let own : IsKeptAt reading.shape data_bytes p read.kept.lsn = record { kept = read.kept; is_kept = read.is_kept; same = refl } in
    let same : lsn ≡ read.kept.lsn = same_lsn reading.shape data_bytes p lsn read.kept.lsn kept own in
    let fine : read.kept.lsn ≤ reading.end = read.not_ahead in
    omega arith

-- a reading is the answer too
reading_answers : (log data_bytes : List ℕ) (reading : Reading) → IsReading log data_bytes reading → Answer log data_bytes None
reading_answers log data_bytes reading reads =
    by_scan log data_bytes reading.format reading.shape reading.number reading.ckpt reading.views reading.wholes reading.end None reads.scan
    (inr (read-kept log data_bytes reading reads, inr (read-not_ahead log data_bytes reading reads, refl)))

-- at most one refusal holds
pub same_refusal : OneGroup → (log data_bytes : List ℕ) (first second : Refusal) → Refuses log data_bytes first → Refuses log data_bytes second → first ≡ second
same_refusal one log data_bytes first second a b =
    let same = same_answer one log data_bytes (Some first) (Some second) (refusal_answers log data_bytes first a) (refusal_answers log data_bytes second b) in
    cc

-- and none where the devices are read
pub read-not_refused : OneGroup → (log data_bytes : List ℕ) (reading : Reading) (refusal : Refusal) → IsReading log data_bytes reading → Refuses log data_bytes refusal → ⊥
read-not_refused one log data_bytes reading refusal a b =
    let same = same_answer one log data_bytes None (Some refusal) (reading_answers log data_bytes reading a) (refusal_answers log data_bytes refusal b) in
    cc
