use Rattle.std.proofs.Common.{◌≡◌, ◌+◌, ◌*◌, ◌-◌, ℕ, ap₂, sym, take, drop, vec_len, Option, IfSome, arith, subst}
use Rattle.model_page.specs.declared.content.Content.{Content}
use Rattle.redo_apply.proofs.Frames.{frame-bound}
use Rattle.redo_apply.proofs.Applied.{page-at}
use Rattle.redo_apply.proofs.pages.Pages.user_bytes.Goals as goal

pub overflow_mul-at : goal.overflow_mul-at
overflow_mul-at c =
    let m = c.self.inside in
    omega (arith, frame-bound m.size c.args.page (vec_len m.users) (vec_len m.lsns) m.lsns.items m.users.items c.args.self.now c.self.view_is c.requires c.self.invariant m.lsns.ok.0)

pub overflow_add-result : goal.overflow_add-result
overflow_add-result c =
    let m = c.self.inside in
    omega (arith, frame-bound m.size c.args.page (vec_len m.users) (vec_len m.lsns) m.lsns.items m.users.items c.args.self.now c.self.view_is c.requires c.self.invariant m.lsns.ok.0)

pub slice_bounds-result-end : goal.slice_bounds-result-end
slice_bounds-result-end c =
    let m = c.self.inside in
    omega (arith, frame-bound m.size c.args.page (vec_len m.users) (vec_len m.lsns) m.lsns.items m.users.items c.args.self.now c.self.view_is c.requires c.self.invariant m.lsns.ok.0)

pub returns : goal.returns
returns c =
    let m = c.self.inside in
    let start : ℕ = c.args.page * m.size in
    let whole : start + m.size - start ≡ m.size = omega arith in
    let same : take (start + m.size - start) (drop start c.deref.result.now) ≡ take m.size (drop start m.users.items) =
    ap₂ (λ n text. take n (drop start text)) whole c.deref.ensures.value in
    subst (λ (found : Option Content). IfSome found (λ content. take (start + m.size - start) (drop start c.deref.result.now) ≡ content.user))
    (sym (page-at m.size c.args.page 0 m.lsns.items m.users.items c.args.self.now c.self.view_is c.requires)) same
