use Rattle.std.proofs.Common.{◌≡◌, ◌≤◌, ◌<◌, ◌+◌, ◌-◌, ◌*◌, ℕ, List, length, take, drop, sym, ap, ◌∙◌, get_or, length-take, length-drop, arith}
use Rattle.std.proofs.lemmas.Option.{slice_get-get_or}
use Rattle.std.proofs.lemmas.List.{take_all}
use Rattle.model_base.proofs.ShapeLimits.{page_size_facts}
use Rattle.model_base.specs.{frame_length, user_length}
use Rattle.model_base.specs.declared.shape.Shape.{Shape}
use Rattle.model_parts.specs.{batch_of, batch_text}
use Rattle.redo_dblwr.proofs.SideBySide.{behind-more, texts-more, length-put}
use Rattle.model_parts.proofs.Batches.{length-page_text, whole-page}
use Rattle.model_parts.proofs.Joined.{length-batch_of, length-nth, nth_user}
use Rattle.model_parts.proofs.Rows.{row_ends}
use Rattle.redo_dblwr.proofs.texts.fill_texts.Goals as goal

-- user bytes as the loop cuts them
cut-user : (shape : Shape) (i n : ℕ) (users : List ℕ) → n ≡ user_length shape
    → take (i * n + n - i * n) (drop (i * n) users) ≡ nth_user shape i users
cut-user shape i n users same =
    let count : i * n + n - i * n ≡ n = omega arith in
    ap (λ (k : ℕ). take k (drop (i * n) users)) count ∙ ap (λ (k : ℕ). take k (drop (i * k) users)) same

length-cut : (shape : Shape) (i n count : ℕ) (users : List ℕ) → n ≡ user_length shape → i < count
    → length users ≡ count * user_length shape
    → length (take (i * n + n - i * n) (drop (i * n) users)) ≡ user_length shape
length-cut shape i n count users same below long =
    ap length (cut-user shape i n users same) ∙ length-nth i count (user_length shape) users below long

pub user_bytes-user_bytes-requires : goal.user_bytes-user_bytes-requires
user_bytes-user_bytes-requires c = omega (arith, (page_size_facts c.args.shape.now.page_size c.requires.size).least)

pub fill_page-requires : goal.fill_page-requires
fill_page-requires c =
    let shape = c.args.shape.now in
    let i = c.loop-i.i in
    let at : ℕ = i * shape.page_size in
    let count : ℕ = length c.args.batch.now in
    let room : at + shape.page_size ≤ length c.loop-i.out =
    omega (arith, c.loop-i.invariant.long, c.requires.room, row_ends i count shape.page_size c.loop-i-test.true) in
    length-take (at + shape.page_size - at) (drop at c.loop-i.out)
    ∙ omega (arith, room, length-drop at c.loop-i.out)
    ∙ sym (whole-page shape c.requires.size)
    ∙ ap (λ (k : ℕ). frame_length + k) (sym (length-cut shape i c.user_bytes-user_bytes.result count c.args.users.now
    c.user_bytes-user_bytes.ensures c.loop-i-test.true c.requires.count))

pub loop-i-preserved : goal.loop-i-preserved
loop-i-preserved c =
    let shape = c.args.shape.now in
    let i = c.loop-i.i in
    let n = c.user_bytes-user_bytes.result in
    let same : n ≡ user_length shape = c.user_bytes-user_bytes.ensures in
    let users = c.args.users.now in
    let count : ℕ = length c.args.batch.now in
    let pair = get_or c.args.batch.now i (0, 0) in
    let at : ℕ = i * shape.page_size in
    let user : List ℕ = take (i * n + n - i * n) (drop (i * n) users) in
    let size : at + shape.page_size - at ≡ shape.page_size = omega arith in
    let room : at + shape.page_size ≤ length c.loop-i.out =
    omega (arith, c.loop-i.invariant.long, c.requires.room, row_ends i count shape.page_size c.loop-i-test.true) in
    let long : length c.fill_page.new.out ≡ shape.page_size =
    ap length c.fill_page.ensures ∙ length-page_text pair.0 shape.space pair.1 user
    ∙ ap (λ (k : ℕ). frame_length + k) (length-cut shape i n count users same c.loop-i-test.true c.requires.count)
    ∙ whole-page shape c.requires.size in
    record {
      long = length-put at (at + shape.page_size - at) c.loop-i.out c.fill_page.new.out (long ∙ sym size) (omega arith)
          ∙ c.loop-i.invariant.long;
      so_far = texts-more shape c.args.batch.now users user c.loop-i.out c.fill_page.new.out i (at + shape.page_size - at) pair
          (slice_get-get_or c.args.batch.now i (0, 0) c.loop-i-test.true) (cut-user shape i n users same)
          c.fill_page.ensures long (omega arith) c.loop-i.invariant.so_far;
      behind = behind-more shape.page_size i (at + shape.page_size - at) c.loop-i.out c.args.out.now c.fill_page.new.out size long
          (omega arith) c.loop-i.invariant.behind;
    }

pub returns-clause-texts : goal.returns-clause-texts
returns-clause-texts c =
    let shape = c.args.shape.now in
    let pairs = c.args.batch.now in
    let all : c.loop-i.i ≡ length pairs = omega (arith, c.loop-i.auto.i-end, c.loop-i-test.false) in
    ap (λ (n : ℕ). take (n * shape.page_size) c.loop-i.out) (sym all) ∙ c.loop-i.invariant.so_far
    ∙ ap (batch_text shape) (take_all c.loop-i.i (batch_of shape pairs c.args.users.now)
    (omega (arith, length-batch_of shape pairs c.args.users.now)))
