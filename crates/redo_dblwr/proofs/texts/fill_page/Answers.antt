use Rattle.std.proofs.Common.{◌≡◌, ◌+◌, ◌-◌, ℕ, List, ◌++◌, length, take, drop, ap, refl, sym, ◌∙◌, length-take-le, length-append, length-drop, arith}
use Rattle.std.proofs.lemmas.List.{take_at, drop_at}
use borrow.Rule.Slice.PartMut.{put_mid}
use Rattle.model_base.specs.{frame_length}
use Rattle.model_base.specs.declared.limits.TheConstants.{PAGE_TRAILER, USER_START}
use Rattle.model_page.specs.{page_text, user_part}
use Rattle.redo_dblwr.proofs.texts.fill_page.Goals as goal

-- bytes that were put in the user bytes' place are the user bytes
user-put : (old user : List ℕ) (count : ℕ) → length old ≡ frame_length + length user → count ≡ length user
    → user_part (put_mid USER_START count old user) ≡ user
user-put old user count long is =
    let head : List ℕ = take USER_START old in
    let rest : List ℕ = drop USER_START old in
    let new : List ℕ = put_mid USER_START count old user in
    let head_long : length head ≡ USER_START = length-take-le USER_START old (omega arith) in
    let size : length new - PAGE_TRAILER - USER_START ≡ length user =
    omega (
      arith,
      length-append head (user ++ drop count rest),
      length-append user (drop count rest),
      length-drop count rest,
      length-drop USER_START old,
    ) in
    ap (λ n. take n (drop USER_START new)) size
    ∙ ap (take (length user)) (drop_at head (user ++ drop count rest) USER_START head_long)
    ∙ take_at user (drop count rest) (length user) refl

pub returns : goal.returns
returns c =
    let user : List ℕ = c.copy_from_slice.new.self in
    let same : user ≡ c.args.user.now = c.copy_from_slice.ensures.after in
    c.seal.ensures ∙ ap (page_text c.args.number c.args.space c.args.lsn)
    (user-put c.args.out.now user (length c.args.out.now - PAGE_TRAILER - USER_START)
    (c.requires ∙ ap (λ (u : List ℕ). frame_length + length u) (sym same)) (omega (arith, c.requires, ap length same)) ∙ same)
