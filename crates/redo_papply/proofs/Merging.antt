-- The frames of all pages, put together.
use Rattle.std.proofs.Common.{◌≡◌, ◌≤◌, ◌<◌, ◌+◌, ℕ, zero, suc, List, [], ◌∷◌, ◌++◌, length, take, drop, set, map, get_or, append_assoc, length-append, length-drop, refl, sym, ap, ◌∙◌, arith}
use Rattle.std.specs.Prelude.{Option, Some, None, IfSome}
use Rattle.std.specs.List.{slice_get}
use Rattle.std.proofs.lemmas.List.{append-nil, drop_all, drop_more, length-map, length-take-le, take_all, take_more}
use Rattle.std.proofs.lemmas.Option.{slice_get-get_or}
use Rattle.model_page.specs.declared.content.Content.{Content}
use Rattle.redo_papply.specs.Frames.{content_of}
use Rattle.redo_papply.specs.Runs.{HaveSizes}
use Rattle.redo_papply.specs.declared.frame.Frame.{Frame}

-- the first pages are as in their frames, and the others as they were
unfoldable pub put_first : ℕ → List Frame → List Content → List Content
put_first k frames old = map content_of (take k frames) ++ drop k old

length-front : (k : ℕ) (frames : List Frame) → k ≤ length frames → length (map content_of (take k frames)) ≡ k
length-front k frames few = length-map (take k frames) content_of ∙ length-take-le k frames few

pub length-put : (k : ℕ) (frames : List Frame) (old : List Content) → length frames ≡ length old → k ≤ length old → length (put_first k frames old) ≡ length old
unfolding put_first
length-put k frames old same few =
    length-append (map content_of (take k frames)) (drop k old)
    ∙ omega (arith, length-front k frames (omega (arith, same)), length-drop k old)

map-append : (xs ys : List Frame) → map content_of (xs ++ ys) ≡ map content_of xs ++ map content_of ys
map-append [] ys = refl
map-append (x ∷ xs) ys = ap (λ l. content_of x ∷ l) (map-append xs ys)

set-behind : (xs ys : List Content) (k : ℕ) (a : Content) → length xs ≡ k → set (xs ++ ys) k a ≡ xs ++ set ys 0 a
set-behind [] ys k a long = ap (λ n. set ys n a) (sym long)
set-behind (x ∷ xs) ys zero a long = absurd (omega (arith, long))
set-behind (x ∷ xs) ys (suc k) a long = ap (λ l. x ∷ l) (set-behind xs ys k a (omega (arith, long)))

get-behind : (xs ys : List Content) (k : ℕ) → length xs ≡ k → slice_get (xs ++ ys) k ≡ slice_get ys 0
get-behind [] ys k long = ap (slice_get ys) (sym long)
get-behind (x ∷ xs) ys zero long = absurd (omega (arith, long))
get-behind (x ∷ xs) ys (suc k) long = get-behind xs ys k (omega (arith, long))

get-drop : (k : ℕ) (xs : List Content) → slice_get (drop k xs) 0 ≡ slice_get xs k
get-drop zero xs = refl
get-drop (suc k) [] = refl
get-drop (suc k) (x ∷ xs) = get-drop k xs

-- one page more
pub put-more : (k : ℕ) (frames : List Frame) (old : List Content) (frame : Frame) → length frames ≡ length old → k < length old → frame ≡ get_or frames k frame
    → set (put_first k frames old) k (content_of frame) ≡ put_first (k + 1) frames old
unfolding put_first
put-more k frames old frame same below frame_is =
    let front = map content_of (take k frames) in
    let page : Content = get_or old k (content_of frame) in
    let few : k ≤ length frames = omega (arith, same) in
    set-behind front (drop k old) k (content_of frame) (length-front k frames few)
    ∙ ap (λ l. front ++ set l 0 (content_of frame)) (drop_more old k (content_of frame) below)
    ∙ sym (append_assoc front (content_of frame ∷ []) (drop (k + 1) old))
    ∙ ap (λ l. l ++ drop (k + 1) old) (sym (map-append (take k frames) (frame ∷ [])))
    ∙ ap (λ (f : Frame). map content_of (take k frames ++ f ∷ []) ++ drop (k + 1) old) frame_is
    ∙ ap (λ fs. map content_of fs ++ drop (k + 1) old) (sym (take_more frames k frame (omega (arith, same))))

-- the next page is still as it was, and as long as its frame's
pub put-fits : (k : ℕ) (frames : List Frame) (old : List Content) (frame : Frame) → length frames ≡ length old → k < length old → frame ≡ get_or frames k frame
    → HaveSizes frames old → (found : Option Content) → slice_get (put_first k frames old) k ≡ found
    → IfSome found (λ content. length frame.user.items ≡ length content.user)
unfolding put_first
put-fits k frames old frame same below frame_is sizes None at = tt
put-fits k frames old frame same below frame_is sizes (Some content) at =
    let few : k ≤ length frames = omega (arith, same) in
    let here : slice_get old k ≡ Some content =
    sym (get-drop k old) ∙ sym (get-behind (map content_of (take k frames)) (drop k old) k (length-front k frames few)) ∙ at in
    let its : slice_get frames k ≡ Some frame = slice_get-get_or frames k frame (omega (arith, same)) ∙ ap Some (sym frame_is) in
    sizes k frame content its here

pub put-none : (frames : List Frame) (old : List Content) → old ≡ put_first 0 frames old
unfolding put_first
put-none frames old = refl

pub put-all : (k : ℕ) (frames : List Frame) (old : List Content) → length frames ≡ length old → length old ≤ k → put_first k frames old ≡ map content_of frames
unfolding put_first
put-all k frames old same all =
    ap (λ fs. map content_of fs ++ drop k old) (take_all k frames (omega (arith, same)))
    ∙ ap (λ l. map content_of frames ++ l) (drop_all k old all) ∙ append-nil (map content_of frames)
