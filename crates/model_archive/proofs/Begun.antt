-- An archive that was just begun.
use Rattle.std.proofs.Common.{◌≡◌, ◌≤◌, ◌<◌, ◌+◌, ◌-◌, ◌*◌, ◌%◌, ℕ, zero, suc, List, [], ◌∷◌, ◌++◌, length, take, drop, replicate, Option, Some, None, refl, sym, ap, subst, ◌∙◌, length-append, arith}
use Rattle.std.specs.List.{slice_get}
use Rattle.std.proofs.Math.Nat.{suc-mul, zero-mul}
use Rattle.std.proofs.lemmas.List.{drop_at, drop-drop, length-replicate, take-replicate, drop-replicate, take_all, take_at}
use Rattle.std.proofs.lemmas.Bool.{eq-eqb}
use Rattle.std.proofs.lemmas.List.Elements.{All-nil}
use Rattle.std.proofs.lemmas.Option.{slice_get_within}
use Rattle.model_base.specs.{frame_length, IsPageSize, IsWithinLimits, overwritten}
use Rattle.model_base.specs.declared.shape.Shape.{Shape}
use Rattle.model_device.specs.{IsSectorWrite, sector, settled, Disk}
use Rattle.model_device.proofs.Overwritten.{length-overwritten, part-overwritten_before, part-overwritten_behind, part-overwritten_inside}
use Rattle.model_log.specs.{block_of, blocks_between, IsDataLsn, sn_of}
use Rattle.model_log.proofs.BoundaryLengths.{sn_of-header}
use Rattle.model_log.proofs.Runs.{data-start, run-none}
use Rattle.model_page.specs.{page_check, page_text, place_lsn_by, user_part}
use Rattle.model_page.specs.declared.content.Content.{Content}
use Rattle.model_page.specs.declared.page.PageState.{PageState}
use Rattle.model_page.specs.declared.page.PageState.TheVariants.{Sound}
use Rattle.model_page.proofs.NotBlank.{is_blank-page_text_whole}
use Rattle.model_page.proofs.ReadBack.{page_check-page_text, user_part-page_text}
use Rattle.model_parts.proofs.Batches.{length-page_text}
use Rattle.model_parts.proofs.Torn.{synced-stands}
use Rattle.model_archive.specs.Holds.{ArchiveHolds, HoldsUpTo, IsBesideMark, IsOlderMark, IsSteadyArchive}
use Rattle.model_archive.specs.Restore.{base_bytes, pages_end, read_archive_head, read_mark, AreBasePages}
use Rattle.model_archive.specs.Marks.{begun_marks}
use Rattle.model_archive.specs.Texts.{AreTexts, archive_head_text, base_text, begun_bytes, IsRunStart, mark_text}
use Rattle.model_archive.proofs.Images.{PageStands, page-stands}
use Rattle.model_archive.proofs.RoundTrips.{head-reads_back, length-head_text, length-mark_text, mark-elsewhere, mark-reads_back}

-- one of the texts
pub text-at : (size space : ℕ) (n : ℕ) (pages : List Content) (p : ℕ) (page : Content)
    → ((i : ℕ) (one : Content) → slice_get pages i ≡ Some one → frame_length + length one.user ≡ size)
    → slice_get pages p ≡ Some page → take size (drop (p * size) (base_text n space pages)) ≡ page_text
    (n + p) space page.lsn page.user
text-at size space n [] p page sizes at = absurd cc
text-at size space n (first ∷ pages) zero page sizes at =
    let same : first ≡ page = cc in
    let text : List ℕ = page_text n space first.lsn first.user in
    let long : length text ≡ size = length-page_text n space first.lsn first.user ∙ sizes 0 first refl in
    let place : n ≡ n + 0 = omega arith in
    ap (λ k. take size (drop k (text ++ base_text (n + 1) space pages))) (zero-mul size)
    ∙ take_at text (base_text (n + 1) space pages) size long
    ∙ ap (λ (c : Content). page_text n space c.lsn c.user) same ∙ ap (λ k. page_text k space page.lsn page.user) place
text-at size space n (first ∷ pages) (suc p) page sizes at =
    let text : List ℕ = page_text n space first.lsn first.user in
    let rest : List ℕ = base_text (n + 1) space pages in
    let long : length text ≡ size = length-page_text n space first.lsn first.user ∙ sizes 0 first refl in
    let skip : suc p * size ≡ size + p * size = omega (arith, suc-mul p size) in
    let place : n + 1 + p ≡ n + suc p = omega arith in
    ap (λ k. take size (drop k (text ++ rest))) skip
    ∙ ap (take size) (sym (drop-drop (p * size) size (text ++ rest))
    ∙ ap (drop (p * size)) (drop_at text rest size long))
    ∙ text-at size space (n + 1) pages p page (λ i one there. sizes (suc i) one there) at
    ∙ ap (λ k. page_text k space page.lsn page.user) place

pub length-base_text : (size space : ℕ) (n : ℕ) (pages : List Content)
    → ((i : ℕ) (one : Content) → slice_get pages i ≡ Some one → frame_length + length one.user ≡ size)
    → length (base_text n space pages) ≡ length pages * size
length-base_text size space n [] sizes = sym (zero-mul size)
length-base_text size space n (first ∷ pages) sizes =
    let text : List ℕ = page_text n space first.lsn first.user in
    let long : length text ≡ size = length-page_text n space first.lsn first.user ∙ sizes 0 first refl in
    let others : length (base_text (n + 1) space pages) ≡ length pages * size =
    length-base_text size space (n + 1) pages (λ i one there. sizes (suc i) one there) in
    omega (arith, length-append text (base_text (n + 1) space pages), suc-mul (length pages) size)

-- a page that passes with its own fields
own-lsn : (shape : Shape) (p lsn : ℕ) (state : PageState) → state ≡ Sound p shape.space lsn
    → place_lsn_by shape p state ≡ Some lsn
own-lsn shape p lsn state is =
    ap (place_lsn_by shape p) is ∙ rw (eq-eqb p p refl, eq-eqb shape.space shape.space refl) refl

-- WHAT STANDS ON THE DEVICE.

pub record Begun (shape : Shape) (s : ℕ) (pages : List Content) (texts old new : List ℕ) : Type 0 where
  pub same : length new ≡ length old
  pub long : pages_end shape ≤ length new
  pub head : sector 0 new ≡ archive_head_text s shape
  pub first : sector 1 new ≡ mark_text 0 s
  pub second : sector 2 new ≡ replicate 512 0
  pub pages_at : (p : ℕ) → p < shape.pages → base_bytes shape p new ≡ take shape.page_size
      (drop (p * shape.page_size) texts)

pub begun-stands : (shape : Shape) (s : ℕ) (pages : List Content) (texts old : List ℕ) → IsWithinLimits shape
    → length texts ≡ shape.pages * shape.page_size → pages_end shape ≤ length old
    → Begun shape s pages texts old (begun_bytes shape s texts old)
unfolding base_bytes
begun-stands shape s pages texts old limits count room =
    let zeros : List ℕ = replicate 1536 0 in
    let head : List ℕ = archive_head_text s shape in
    let mark : List ℕ = mark_text 0 s in
    let one : List ℕ = overwritten 0 zeros old in
    let two : List ℕ = overwritten 1536 texts one in
    let three : List ℕ = overwritten 512 mark two in
    let none : length zeros ≡ 1536 = length-replicate {A = ℕ} 1536 0 in
    let head_long : length head ≡ 512 = length-head_text s shape in
    let mark_long : length mark ≡ 512 = length-mark_text 0 s in
    let one_fits : 0 + length zeros ≤ length old = omega arith in
    let one_long : length one ≡ length old = length-overwritten 0 zeros old one_fits in
    let two_fits : 1536 + length texts ≤ length one = omega arith in
    let two_long : length two ≡ length one = length-overwritten 1536 texts one two_fits in
    let three_fits : 512 + length mark ≤ length two = omega arith in
    let three_long : length three ≡ length two = length-overwritten 512 mark two three_fits in
    let four_fits : 0 + length head ≤ length three = omega arith in
    record {
      same = length-overwritten 0 head three four_fits ∙ three_long ∙ two_long ∙ one_long;
      long = omega (arith, length-overwritten 0 head three four_fits);
      head = part-overwritten_inside 512 0 0 head three (omega arith) (omega arith) four_fits
          ∙ take_all 512 head (omega arith);
      first = part-overwritten_behind 512 512 0 head three (omega arith) four_fits
          ∙ part-overwritten_inside 512 512 512 mark two (omega arith) (omega arith) three_fits
          ∙ take_all 512 mark (omega arith);
      second = part-overwritten_behind 512 1024 0 head three (omega arith) four_fits
          ∙ part-overwritten_behind 512 1024 512 mark two (omega arith) three_fits
          ∙ part-overwritten_before 512 1024 1536 texts one (omega arith) two_fits
          ∙ part-overwritten_inside 512 1024 0 zeros old (omega arith) (omega arith) one_fits
          ∙ ap (take 512) (drop-replicate 1024 1536 0) ∙ take-replicate 512 512 0 (omega arith);
      pages_at = λ p below.
          let stands : PageStands shape p = page-stands shape p limits below in
          let at : ℕ = 1536 + p * shape.page_size in
          let skip : at - 1536 ≡ p * shape.page_size = omega arith in
          part-overwritten_behind shape.page_size at 0 head three (omega arith) four_fits
          ∙ part-overwritten_behind shape.page_size at 512 mark two (omega arith) three_fits
          ∙ part-overwritten_inside shape.page_size at 1536 texts one (omega arith)
          (omega (arith, stands.behind)) two_fits
          ∙ ap (λ n. take shape.page_size (drop n texts)) skip;
    }

no-blocks : (s : ℕ) → s % 512 ≡ 12 → blocks_between s s ≡ 0
no-blocks s place =
    let b : ℕ = block_of s in
    let there : s ≡ b + 12 = omega (arith, place) in
    let same : sn_of s ≡ sn_of b = ap sn_of there ∙ sn_of-header b (omega arith) in
    omega arith

zero-mark : (s : ℕ) → read_mark 2 s (replicate 512 0) ≡ None
zero-mark s = mark-elsewhere 2 s (replicate 512 0) refl

pub begun-page : (shape : Shape) (s : ℕ) (pages : List Content) (old new : List ℕ) → IsWithinLimits shape
    → AreTexts shape.page_size shape.space pages → length pages ≡ shape.pages
    → Begun shape s pages (base_text 0 shape.space pages) old new → AreBasePages shape new pages
begun-page shape s pages old new limits texts count begun = record {
  count = count;
  each = λ p page at.
      let below : p < length pages = slice_get_within pages p page at in
      let bytes : base_bytes shape p new ≡ page_text p shape.space page.lsn page.user =
      begun.pages_at p (omega arith) ∙ text-at shape.page_size shape.space 0 pages p page texts.size_is at
      ∙ ap (λ k. page_text k shape.space page.lsn page.user) (let same : 0 + p ≡ p = omega arith in same) in
      record {
        passes = own-lsn shape p page.lsn (page_check (base_bytes shape p new))
            (ap page_check bytes ∙ page_check-page_text p shape.space page.lsn page.user (texts.fit p page at)
            (is_blank-page_text_whole p shape.space page.lsn page.user
            (subst IsPageSize (sym (texts.size_is p page at)) limits.page_size)));
        user = sym (ap user_part bytes ∙ user_part-page_text p shape.space page.lsn page.user);
      };
}

pub begun-archive : (shape : Shape) (s : ℕ) (pages : List Content) (old : List ℕ) → IsWithinLimits shape → IsRunStart s
    → AreTexts shape.page_size shape.space pages → length pages ≡ shape.pages
    → pages_end shape ≤ length old → let disk : Disk =
    settled (begun_bytes shape s (base_text 0 shape.space pages) old) in
    ArchiveHolds shape s pages [] (begun_marks s) disk × IsSteadyArchive s (begun_marks s) disk
begun-archive shape s pages old limits start texts count room =
    let new : List ℕ = begun_bytes shape s (base_text 0 shape.space pages) old in
    let begun : Begun shape s pages (base_text 0 shape.space pages) old new =
    begun-stands shape s pages (base_text 0 shape.space pages) old limits
    (length-base_text shape.page_size shape.space 0 pages texts.size_is ∙ ap (λ n. n * shape.page_size) count) room in
    let place : IsDataLsn s = data-start s start.place in
    let none : blocks_between s s ≡ 0 = no-blocks s start.place in
    let first : read_mark 1 s (sector 1 new) ≡ Some (0, s) = ap (read_mark 1 s) begun.first
    ∙ mark-reads_back s 0 s (omega arith) place (omega arith) start.small in
    let second : read_mark 2 s (sector 2 new) ≡ None = ap (read_mark 2 s) begun.second ∙ zero-mark s in
    let up_to : HoldsUpTo shape s pages [] s (settled new) = record {
      place = place;
      from = omega arith;
      up_to = omega arith;
      small = start.small;
      long = omega (arith, begun.long);
      settled = λ k one two below covered. covered;
      head = ap read_archive_head begun.head ∙ head-reads_back s shape limits start;
      pages_are = begun-page shape s pages old new limits texts count begun;
      blocks = λ i below. absurd (omega arith);
    } in (
      record {
        limits = limits;
        start = start;
        run = run-none s;
        sectors = All-nil (IsSectorWrite (length new));
        holds = up_to;
        newest = λ bytes stands. ap (read_mark 1 s) (synced-stands (settled new) 1 bytes stands) ∙ first;
        beside = λ bytes stands. subst (λ (o : Option (ℕ × ℕ)).
            IsBesideMark shape s pages [] (begun_marks s) (settled new) o)
            (sym (ap (read_mark 2 s) (synced-stands (settled new) 2 bytes stands) ∙ second)) tt;
      },
      record {
        nothing_pending = refl;
        beside = subst (λ (o : Option (ℕ × ℕ)). IsOlderMark (begun_marks s) o) (sym second) tt;
      },
    )
