-- A page's frame while its user bytes are written into it.
use Rattle.std.proofs.Common.{List, [], ap, arith, length, refl, set, subst, suc, sym, zero, ℕ, ◌<◌, ◌∙◌, ◌∷◌, ◌≡◌}
use Rattle.std.specs.Prelude.{slice_index, slice_set}
use Rattle.std.proofs.lemmas.List.{ext_get_or, get_or-set_same, set-get_or, set-set}
use Rattle.model_core.specs.{blank_words, frame_words, page_words_at, PageWords, SharedWords, with_page_words, wrote}
use Rattle.model_core.specs.declared.words.Word.TheVariants as word
use Rattle.redo_drive.proofs.StartWordsPacked.{page_frame-at, page_frame-length}
use Rattle.redo_drive.specs.Setups.{page_frame}
use Rattle.redo_drive.specs.StartWords.{cells_word, AreNamed, IsBlankFrame, with_frame}
use Rattle.redo_words.specs.Plain.{Plain}

-- the first so many of the bytes, and 0 for each other
abbrev pub bytes_up_to : List ℕ → ℕ → List ℕ
bytes_up_to [] i = []
bytes_up_to (x ∷ xs) zero = 0 ∷ bytes_up_to xs zero
bytes_up_to (x ∷ xs) (suc i) = x ∷ bytes_up_to xs i

-- there are as many; none of them are all 0, all of them are the bytes, and each is set after those before it
up_to-length : (xs : List ℕ) (i : ℕ) → length (bytes_up_to xs i) ≡ length xs
up_to-length [] i = refl
up_to-length (x ∷ xs) zero = ap suc (up_to-length xs zero)
up_to-length (x ∷ xs) (suc i) = ap suc (up_to-length xs i)

up_to_none : (xs : List ℕ) (i : ℕ) → slice_index (bytes_up_to xs zero) i ≡ 0
up_to_none [] i = refl
up_to_none (x ∷ xs) zero = refl
up_to_none (x ∷ xs) (suc i) = up_to_none xs i

up_to_all : (xs : List ℕ) → bytes_up_to xs (length xs) ≡ xs
up_to_all [] = refl
up_to_all (x ∷ xs) = ap (λ (ys : List ℕ). x ∷ ys) (up_to_all xs)

up_to_more : (xs : List ℕ) (i : ℕ) → set (bytes_up_to xs i) i (slice_index xs i) ≡ bytes_up_to xs (suc i)
up_to_more [] i = refl
up_to_more (x ∷ xs) zero = refl
up_to_more (x ∷ xs) (suc i) = ap (λ (ys : List ℕ). x ∷ ys) (up_to_more xs i)

-- a frame that is given the cells which it has
frame_same : (page : ℕ) (cells : List ℕ) (m : SharedWords) → cells ≡ (page_words_at m.page_words page).frame → with_frame page cells m ≡ m
frame_same page cells m same =
    ap (λ (xs : List ℕ). with_frame page xs m) same
    ∙ ap (λ (ws : List PageWords). let named : SharedWords = record m { page_words = ws } in named) (set-get_or m.page_words page blank_words)

-- a cell of a frame that was just given its cells
frame_wrote : (page i x : ℕ) (cells : List ℕ) (m : SharedWords) → page < length m.page_words → wrote (with_frame page cells m) (word.Frame page i) x ≡ with_frame page (slice_set cells i x) m
frame_wrote page i x cells m there =
    let w : PageWords = record (page_words_at m.page_words page) { frame = cells } in
    ap (λ (v : PageWords). with_page_words (with_page_words m page w) page (record v { frame = slice_set v.frame i x })) (get_or-set_same m.page_words page w blank_words there)
    ∙ ap (λ (ws : List PageWords). let named : SharedWords = record m { page_words = ws } in named) (set-set m.page_words page w (record w { frame = slice_set cells i x }))

-- the frame has so many of its words, and the other words are as they were
pub record IsFramedUpTo (old new : Plain) (page page_size : ℕ) (user : List ℕ) (i : ℕ) : Type 0 where
  pub layout : new.layout ≡ old.layout
  pub named : (m : SharedWords) → AreNamed old m → IsBlankFrame page m
      → AreNamed new (with_frame page (bytes_up_to (page_frame page_size user) i) m)

module _ (old : Plain) (page page_size : ℕ) (user : List ℕ) (there : page < old.layout.pages)
    (its_size : old.layout.page_size ≡ page_size) where
  abbrev its : List ℕ
  its = page_frame page_size user

  pub framed_none : IsFramedUpTo old old page page_size user 0
  framed_none = record {
    layout = refl;
    named = λ m named blank.
        let words : List ℕ = bytes_up_to its 0 in
        let frame : List ℕ = (page_words_at m.page_words page).frame in
        let long : length words ≡ length frame = up_to-length its 0 ∙ page_frame-length page_size user
        ∙ ap frame_words (sym its_size) ∙ sym (named.sized.frames page there) in
        let same : words ≡ frame = ext_get_or 0 words frame long (λ i _. up_to_none its i ∙ sym (blank i)) in
        subst (AreNamed old) (sym (frame_same page words m same)) named;
  }

  pub framed_more : (mid new : Plain) (i x : ℕ) → IsFramedUpTo old mid page page_size user i → i < frame_words page_size
      → x ≡ cells_word user i → new.layout ≡ mid.layout
      → ((m : SharedWords) → AreNamed mid m → AreNamed new (wrote m (word.Frame page i) x))
      → IsFramedUpTo old new page page_size user (suc i)
  framed_more mid new i x before few is layout step = record {
    layout = layout ∙ before.layout;
    named = λ m named blank.
        let words : List ℕ = bytes_up_to its i in
        let more : slice_set words i x ≡ bytes_up_to its (suc i) =
        ap (set words i) (is ∙ sym (page_frame-at page_size user i few)) ∙ up_to_more its i in
        subst (AreNamed new)
        (frame_wrote page i x words m (omega (arith, named.sized.page_words))
        ∙ ap (λ (frame : List ℕ). with_frame page frame m) more)
        (step (with_frame page words m) (before.named m named blank));
  }

  -- all of them are the page's
  pub framed_all : (new : Plain) (i : ℕ) → IsFramedUpTo old new page page_size user i → i ≡ frame_words page_size
      → (m : SharedWords) → AreNamed old m → IsBlankFrame page m → AreNamed new (with_frame page its m)
  framed_all new i framed all m named blank =
      subst (λ (frame : List ℕ). AreNamed new (with_frame page frame m))
      (ap (bytes_up_to its) (all ∙ sym (page_frame-length page_size user)) ∙ up_to_all its) (framed.named m named blank)
