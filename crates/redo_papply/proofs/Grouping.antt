-- The pages of one worker, one group after another.
use Rattle.std.proofs.Common.{◌≡◌, ◌≤◌, ◌<◌, ◌+◌, ℕ, zero, suc, Bool, true, false, cond, List, [], ◌∷◌, ◌++◌, length, take, get_or, Some, refl, sym, ap, subst, ◌∙◌, arith}
use Rattle.std.specs.Prelude.{nat_le}
use Rattle.std.specs.List.{slice_get, AllZip, range_with_len}
use Rattle.std.proofs.lemmas.List.{take_more}
use Rattle.std.proofs.lemmas.Slice.Zip.{all_zipped_more}
use Rattle.std.proofs.lemmas.Option.{get_or_from_slice_get, slice_get-get_or, slice_get_within}
use Rattle.model_base.specs.{user_length}
use Rattle.model_base.specs.declared.shape.Shape.{Shape}
use Rattle.model_log.specs.{GroupFits, RecordFits}
use Rattle.model_log.specs.declared.rec.Rec.{Rec}
use Rattle.model_log.specs.declared.group.Whole.{Whole}
use Rattle.model_page.specs.declared.content.Content.{Content}
use Rattle.model_store.specs.{page_after}
use Rattle.redo_apply.proofs.Grouped.{fits-at}
use Rattle.redo_apply.specs.{ArePagesOf}
use Rattle.redo_papply.proofs.Replaying.{page_after-append, replayed-more}
use Rattle.redo_papply.specs.Fits.{FitFrames, FitPages}
use Rattle.redo_papply.specs.Frames.{AreAfterGroup, content_of, IsAfterGroup, IsFrameOf}
use Rattle.redo_papply.specs.Runs.{AreNumbersOf}
use Rattle.redo_papply.specs.declared.frame.Frame.{Frame}

same-frame : (a b : Frame) → Some a ≡ Some b → a ≡ b
same-frame a b e = cc

-- ONE GROUP

two-steps : (b : Bool) (p : ℕ) (xs ys : List Rec) (end : ℕ) (old mid new : Content) → mid ≡ cond b (page_after p xs end old) old
    → new ≡ cond b (page_after p ys end mid) mid → new ≡ cond b (page_after p (xs ++ ys) end old) old
two-steps true p xs ys end old mid new first second =
    second ∙ ap (page_after p ys end) first ∙ sym (page_after-append p xs ys end old)
two-steps false p xs ys end old mid new first second = second ∙ first

frame-then : (p : ℕ) (xs ys : List Rec) (start end : ℕ) (old mid new : Frame) → IsAfterGroup p xs start end old mid → IsAfterGroup p ys start end mid new
    → IsAfterGroup p (xs ++ ys) start end old new
frame-then p xs ys start end old mid new first second = record {
  from = second.from ∙ first.from;
  size = second.size ∙ first.size;
  page = two-steps (nat_le old.from start) p xs ys end (content_of old) (content_of mid) (content_of new) first.page
      (second.page ∙ ap (λ q. cond (nat_le q start) (page_after p ys end (content_of mid)) (content_of mid)) first.from);
}

after-none : (first start end : ℕ) (frames : List Frame) → AreAfterGroup first [] start end frames frames
after-none first start end frames = record {
  count = refl;
  each = λ i before after at_before at_after.
      let same : before ≡ after = same-frame before after (sym at_before ∙ at_after) in
      subst (λ (x : Frame). IsAfterGroup (first + i) [] start end before x) same (nothing (first + i) before);
}
  where
    none : (b : Bool) (page : Content) → page ≡ cond b page page
    none true page = refl
    none false page = refl

    nothing : (p : ℕ) (frame : Frame) → IsAfterGroup p [] start end frame frame
    nothing p frame = record { from = refl; size = refl; page = none (nat_le frame.from start) (content_of frame) }

-- no record is applied yet
pub group-begins : (first : ℕ) (group : List Rec) (start end : ℕ) (frames : List Frame) → AreAfterGroup first (take 0 group) start end frames frames
group-begins first group start end frames = after-none first start end frames

-- one record more
pub group-more : (first : ℕ) (group : List Rec) (i : ℕ) (rec : Rec) (start end : ℕ) (old now new : List Frame) → slice_get group i ≡ Some rec
    → AreAfterGroup first (take i group) start end old now → AreAfterGroup first (rec ∷ []) start end now new
    → AreAfterGroup first (take (i + 1) group) start end old new
group-more first group i rec start end old now new at done one =
    let more : take i group ++ rec ∷ [] ≡ take (i + 1) group =
    ap (λ (r : Rec). take i group ++ r ∷ []) (sym (get_or_from_slice_get group i rec rec at))
    ∙ sym (take_more group i rec (slice_get_within group i rec at)) in
    subst (λ (recs : List Rec). AreAfterGroup first recs start end old new) more (record {
      count = one.count ∙ done.count;
      each = λ k before after at_before at_after.
          let mid : Frame = get_or now k before in
          let at_mid : slice_get now k ≡ Some mid =
          slice_get-get_or now k before (omega (arith, slice_get_within old k before at_before, done.count)) in
          frame-then (first + k) (take i group) (rec ∷ []) start end before mid after
          (done.each k before mid at_before at_mid) (one.each k mid after at_mid at_after);
    })

-- the frames still have pages that each record of the group fits
pub fit-still : (first : ℕ) (group some : List Rec) (i : ℕ) (rec : Rec) (start end : ℕ) (old now : List Frame) → slice_get group i ≡ Some rec → FitFrames group old
    → AreAfterGroup first some start end old now → FitFrames (rec ∷ []) now
fit-still first group some i rec start end old now at fit done = record {
  shape = fit.shape;
  fits = (fits-at (RecordFits fit.shape) group i rec fit.fits at, tt);
  sizes = λ k frame here.
      let below : k < length old = omega (arith, slice_get_within now k frame here, done.count) in
      let was : Frame = get_or old k frame in
      let at_was : slice_get old k ≡ Some was = slice_get-get_or old k frame below in
      (done.each k was frame at_was here).size ∙ fit.sizes k was at_was;
}

-- ONE GROUP AFTER ANOTHER

pub frame-more : (wholes : List Whole) (pages : List Content) (p : ℕ) (whole : Whole) (old new : Frame) → IsFrameOf wholes pages p old
    → IsAfterGroup p whole.group whole.start whole.end old new → IsFrameOf (wholes ++ whole ∷ []) pages p new
frame-more wholes pages p whole old new was after = record {
  old = was.old;
  at = was.at;
  from = after.from ∙ was.from;
  size = after.size ∙ was.size;
  page = after.page
      ∙ ap (λ q. cond (nat_le q whole.start) (page_after p whole.group whole.end (content_of old)) (content_of old)) was.from
      ∙ ap (λ c. cond (nat_le was.old.lsn whole.start) (page_after p whole.group whole.end c) c) was.page
      ∙ sym (replayed-more p was.old.lsn wholes whole was.old);
}

behind : (first : ℕ) (group : List Rec) (start end : ℕ) (a b : Frame) (old new : List Frame) → AreAfterGroup first group start end (a ∷ old) (b ∷ new)
    → AreAfterGroup (first + 1) group start end old new
behind first group start end a b old new after = record {
  count = omega (arith, after.count);
  each = λ i before now at_before at_now.
      let next : first + suc i ≡ first + 1 + i = omega arith in
      subst (λ (q : ℕ). IsAfterGroup q group start end before now) next (after.each (suc i) before now at_before at_now);
}

more-from : (wholes : List Whole) (whole : Whole) (pages : List Content) (n first : ℕ) (old new : List Frame)
    → AreAfterGroup first whole.group whole.start whole.end old new → AllZip (IsFrameOf wholes pages) (range_with_len first n) old
    → AllZip (IsFrameOf (wholes ++ whole ∷ []) pages) (range_with_len first n) new
more-from wholes whole pages zero first [] [] after are = tt
more-from wholes whole pages zero first [] (b ∷ new) after are = absurd (omega (arith, after.count))
more-from wholes whole pages zero first (a ∷ old) new after are = absurd are
more-from wholes whole pages (suc n) first [] new after are = absurd are
more-from wholes whole pages (suc n) first (a ∷ old) [] after are = absurd (omega (arith, after.count))
more-from wholes whole pages (suc n) first (a ∷ old) (b ∷ new) after are =
    let here : first + 0 ≡ first = omega arith in (
      frame-more wholes pages first whole a b are.0
          (subst (λ (q : ℕ). IsAfterGroup q whole.group whole.start whole.end a b) here (after.each 0 a b refl refl)),
      more-from wholes whole pages n (first + 1) old new (behind first whole.group whole.start whole.end a b old new after) are.1,
    )

-- one page more
pub run-one : (pages : List Content) (numbers : List ℕ) (i : ℕ) (old new : List Frame) (frame : Frame) → i < length numbers
    → new ≡ old ++ frame ∷ [] → AllZip (IsFrameOf [] pages) (take i numbers) old → IsFrameOf [] pages (get_or numbers i 0) frame
    → AllZip (IsFrameOf [] pages) (take (i + 1) numbers) new
run-one pages numbers i old new frame below new_is are one =
    subst (λ (ns : List ℕ). AllZip (IsFrameOf [] pages) ns new) (sym (take_more numbers i 0 below))
    (subst (λ (fs : List Frame). AllZip (IsFrameOf [] pages) (take i numbers ++ get_or numbers i 0 ∷ []) fs) (sym new_is)
    (all_zipped_more (IsFrameOf [] pages) (take i numbers) old (get_or numbers i 0) frame are one))

-- one group more
pub run-more : (groups : List Whole) (pages : List Content) (numbers : List ℕ) (i first : ℕ) (whole : Whole) (old new : List Frame) → AreNumbersOf pages numbers
    → first ≡ get_or numbers 0 0 → i < length groups → whole ≡ get_or groups i whole
    → AllZip (IsFrameOf (take i groups) pages) numbers old → AreAfterGroup first whole.group whole.start whole.end old new
    → AllZip (IsFrameOf (take (i + 1) groups) pages) numbers new
run-more groups pages numbers i first whole old new run first_is below whole_is are after =
    let more : take i groups ++ whole ∷ [] ≡ take (i + 1) groups =
    ap (λ (w : Whole). take i groups ++ w ∷ []) whole_is ∙ sym (take_more groups i whole below) in
    let own : first ≡ run.first = first_is ∙ ap (λ ns. get_or ns 0 0) run.are ∙ head (length numbers) run.first 0 run.some in
    let at_first : AreAfterGroup run.first whole.group whole.start whole.end old new =
    subst (λ (q : ℕ). AreAfterGroup q whole.group whole.start whole.end old new) own after in
    subst (λ (ws : List Whole). AllZip (IsFrameOf ws pages) numbers new) more
    (subst (λ (ns : List ℕ). AllZip (IsFrameOf (take i groups ++ whole ∷ []) pages) ns new) (sym run.are)
    (more-from (take i groups) whole pages (length numbers) run.first old new at_first
    (subst (λ (ns : List ℕ). AllZip (IsFrameOf (take i groups) pages) ns old) run.are are)))
  where
    head : (n a d : ℕ) → 1 ≤ n → get_or (range_with_len a n) 0 d ≡ a
    head zero a d some = absurd (omega arith)
    head (suc n) a d some = refl

sizes-of : (wholes : List Whole) (pages : List Content) (shape : Shape) → ArePagesOf shape pages → (numbers : List ℕ) (frames : List Frame)
    → AllZip (IsFrameOf wholes pages) numbers frames → (i : ℕ) (frame : Frame) → slice_get frames i ≡ Some frame → length frame.user.items ≡ user_length shape
sizes-of wholes pages shape its [] [] are i frame at = absurd cc
sizes-of wholes pages shape its [] (f ∷ frames) are i frame at = absurd are
sizes-of wholes pages shape its (n ∷ numbers) [] are i frame at = absurd are
sizes-of wholes pages shape its (n ∷ numbers) (f ∷ frames) are zero frame at =
    let same : f ≡ frame = same-frame f frame at in
    ap (λ (x : Frame). length x.user.items) (sym same) ∙ are.0.size ∙ its.sizes n are.0.old are.0.at
sizes-of wholes pages shape its (n ∷ numbers) (f ∷ frames) are (suc i) frame at = sizes-of wholes pages shape its numbers frames are.1 i frame at

-- the frames have pages that the next group fits
pub run-fits : (groups some : List Whole) (pages : List Content) (numbers : List ℕ) (i : ℕ) (whole : Whole) (frames : List Frame) → FitPages groups pages
    → i < length groups → whole ≡ get_or groups i whole → AllZip (IsFrameOf some pages) numbers frames → FitFrames whole.group frames
run-fits groups some pages numbers i whole frames fit below whole_is are = record {
  shape = fit.shape;
  fits = subst (λ (w : Whole). GroupFits fit.shape w.group) (sym whole_is) (fit.fit i whole below);
  sizes = sizes-of some pages fit.shape fit.its_pages numbers frames are;
}
