use Rattle.std.proofs.Common.{◌≡◌, ◌∙◌, ◌+◌, ◌-◌, ◌*◌, ℕ, set, ap, ap₂, sym, take, drop, length, vec_len, Option, IfSome, arith, refl, subst}
use Rattle.std.specs.Prelude.{slice_get}
use Rattle.redo_apply.specs.Fits.{ArePagesOf}
use Rattle.redo_apply.proofs.Grouped.{are-set}
use Rattle.std.proofs.lemmas.List.{length-take-le, length-drop}
use Rattle.model_page.specs.declared.content.Content.{Content}
use Rattle.redo_apply.proofs.Frames.{frame-bound, length-contents}
use Rattle.redo_apply.proofs.Applied.{page-at, frame-written}
use Rattle.redo_apply.proofs.pages.Pages.put.Goals as goal

pub overflow_mul-at : goal.overflow_mul-at
overflow_mul-at c =
    let m = c.self.inside in
    omega (arith, frame-bound m.size c.args.page (vec_len m.users) (vec_len m.lsns) m.lsns.items m.users.items c.args.self.now c.self.view_is c.requires.page c.self.invariant m.lsns.ok.0)

pub overflow_add-at : goal.overflow_add-at
overflow_add-at c =
    let m = c.self.inside in
    omega (arith, frame-bound m.size c.args.page (vec_len m.users) (vec_len m.lsns) m.lsns.items m.users.items c.args.self.now c.self.view_is c.requires.page c.self.invariant m.lsns.ok.0)

pub slice_bounds-copy_from_slice-end : goal.slice_bounds-copy_from_slice-end
slice_bounds-copy_from_slice-end c =
    let m = c.self.inside in
    omega (arith, frame-bound m.size c.args.page (vec_len m.users) (vec_len m.lsns) m.lsns.items m.users.items c.args.self.now c.self.view_is c.requires.page c.self.invariant m.lsns.ok.0)

pub copy_from_slice-requires : goal.copy_from_slice-requires
copy_from_slice-requires c =
    let m = c.self.inside in
    let start : ℕ = c.args.page * m.size in
    let whole : start + m.size - start ≡ m.size = omega arith in
    let own : length c.args.user.now ≡ length (take m.size (drop start m.users.items)) =
    subst (λ (found : Option Content). IfSome found (λ content. length c.args.user.now ≡ length content.user))
    (page-at m.size c.args.page 0 m.lsns.items m.users.items c.args.self.now c.self.view_is c.requires.page) c.requires.user in
    ap₂ (λ n text. length (take n (drop start text))) whole c.deref_mut.ensures.value ∙ sym own

pub index_mut-requires : goal.index_mut-requires
index_mut-requires c =
    let m = c.self.inside in
    omega (arith, c.requires.page, m.lsns.ok.0, ap length c.self.view_is, length-contents m.size m.lsns.items m.users.items)

pub returns-clause-content : goal.returns-clause-content
returns-clause-content c =
    let m = c.self.inside in
    let bound = frame-bound m.size c.args.page (vec_len m.users) (vec_len m.lsns) m.lsns.items m.users.items c.args.self.now c.self.view_is c.requires.page c.self.invariant m.lsns.ok.0 in
    let start : ℕ = c.args.page * m.size in
    let whole : start + m.size - start ≡ m.size = omega arith in
    let all : length m.users.items ≡ m.size * length m.lsns.items = sym m.users.ok.0 ∙ c.self.invariant ∙ ap (λ n. m.size * n) m.lsns.ok.0 in
    let part : length (take (start + m.size - start) (drop start c.deref_mut.result.now)) ≡ m.size =
    ap₂ (λ n text. length (take n (drop start text))) whole c.deref_mut.ensures.value
    ∙ length-take-le m.size (drop start m.users.items) (omega (arith, length-drop start m.users.items, bound, m.users.ok.0)) in
    frame-written m.size c.args.page (start + m.size - start) c.args.lsn (vec_len m.users) m.lsns.items m.users.items c.deref_mut.result.now c.copy_from_slice.new.self
    c.args.self.now c.self.view_is c.requires.page all m.users.ok.0 c.deref_mut.ensures.value whole (c.copy_from_slice.ensures.len ∙ part)
    ∙ ap (λ text. set c.args.self.now c.args.page (let x : Content = record { lsn = c.args.lsn; user = text } in x)) c.copy_from_slice.ensures.after

pub returns-clause-its_pages : goal.returns-clause-its_pages
returns-clause-its_pages c other are =
    subst (ArePagesOf other) (sym (returns-clause-content c))
    (are-set other c.args.self.now c.args.page (slice_get c.args.self.now c.args.page) (record { lsn = c.args.lsn; user = c.args.user.now }) refl c.requires.user c.requires.page are)
