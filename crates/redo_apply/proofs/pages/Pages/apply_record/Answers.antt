use Rattle.std.proofs.Common.{◌≡◌, ◌∙◌, ◌<◌, ◌+◌, ◌-◌, ◌*◌, ℕ, ap, ap₂, sym, take, drop, length, vec_len, Option, IfSome, List, arith, subst}
use Rattle.std.proofs.lemmas.List.{length-take-le, length-drop}
use Rattle.model_log.specs.{page_of}
use Rattle.model_page.specs.declared.content.Content.{Content}
use Rattle.redo_apply.specs.Writing.{WritesWithin}
use Rattle.redo_apply.proofs.Frames.{frame-bound, length-contents}
use Rattle.redo_apply.proofs.Applied.{page-at, frame-written, record-applied}
use Rattle.redo_apply.proofs.pages.Pages.apply_record.Goals as goal

pub overflow_mul-at : goal.overflow_mul-at
overflow_mul-at c =
    let m = c.self.inside in
    omega (arith, frame-bound m.size c.page_of-page.result (vec_len m.users) (vec_len m.lsns) m.lsns.items m.users.items c.args.self.now c.self.view_is (omega (arith, c.page_of-page.ensures, c.requires.page)) c.self.invariant m.lsns.ok.0)

pub overflow_add-at : goal.overflow_add-at
overflow_add-at c =
    let m = c.self.inside in
    omega (arith, frame-bound m.size c.page_of-page.result (vec_len m.users) (vec_len m.lsns) m.lsns.items m.users.items c.args.self.now c.self.view_is (omega (arith, c.page_of-page.ensures, c.requires.page)) c.self.invariant m.lsns.ok.0)

pub slice_bounds-put_record-end : goal.slice_bounds-put_record-end
slice_bounds-put_record-end c =
    let m = c.self.inside in
    omega (arith, frame-bound m.size c.page_of-page.result (vec_len m.users) (vec_len m.lsns) m.lsns.items m.users.items c.args.self.now c.self.view_is (omega (arith, c.page_of-page.ensures, c.requires.page)) c.self.invariant m.lsns.ok.0)

pub put_record-requires : goal.put_record-requires
put_record-requires c =
    let m = c.self.inside in
    let bound = frame-bound m.size c.page_of-page.result (vec_len m.users) (vec_len m.lsns) m.lsns.items m.users.items c.args.self.now c.self.view_is (omega (arith, c.page_of-page.ensures, c.requires.page)) c.self.invariant m.lsns.ok.0 in
    let start : ℕ = c.page_of-page.result * m.size in
    let whole : start + m.size - start ≡ m.size = omega arith in
    let same : take (start + m.size - start) (drop start c.deref_mut.result.now) ≡ take m.size (drop (page_of c.args.rec.now * m.size) m.users.items) =
    ap₂ (λ n text. take n (drop start text)) whole c.deref_mut.ensures.value ∙ ap (λ n. take m.size (drop (n * m.size) m.users.items)) c.page_of-page.ensures in
    let within = subst (λ (found : Option Content). IfSome found (λ content. WritesWithin (length content.user) c.args.rec.now))
    (page-at m.size (page_of c.args.rec.now) 0 m.lsns.items m.users.items c.args.self.now c.self.view_is c.requires.page) c.requires.within in
    record { within = subst (λ (text : List ℕ). WritesWithin (length text) c.args.rec.now) (sym same) within }

pub index_mut-requires : goal.index_mut-requires
index_mut-requires c =
    let m = c.self.inside in
    omega (arith, c.page_of-page.ensures, c.requires.page, m.lsns.ok.0, ap length c.self.view_is, length-contents m.size m.lsns.items m.users.items)

pub returns : goal.returns
returns c =
    let m = c.self.inside in
    let bound = frame-bound m.size c.page_of-page.result (vec_len m.users) (vec_len m.lsns) m.lsns.items m.users.items c.args.self.now c.self.view_is (omega (arith, c.page_of-page.ensures, c.requires.page)) c.self.invariant m.lsns.ok.0 in
    let start : ℕ = c.page_of-page.result * m.size in
    let whole : start + m.size - start ≡ m.size = omega arith in
    let all : length m.users.items ≡ m.size * length m.lsns.items = sym m.users.ok.0 ∙ c.self.invariant ∙ ap (λ n. m.size * n) m.lsns.ok.0 in
    let part : length (take (start + m.size - start) (drop start c.deref_mut.result.now)) ≡ m.size =
    ap₂ (λ n text. length (take n (drop start text))) whole c.deref_mut.ensures.value
    ∙ length-take-le m.size (drop start m.users.items) (omega (arith, length-drop start m.users.items, bound, m.users.ok.0)) in
    let sized : length c.put_record.new.user ≡ m.size = c.put_record.auto.user ∙ part in
    let here : c.page_of-page.result < length c.args.self.now = omega (arith, c.page_of-page.ensures, c.requires.page) in
    frame-written m.size c.page_of-page.result (start + m.size - start) c.args.end (vec_len m.users) m.lsns.items m.users.items c.deref_mut.result.now c.put_record.new.user
    c.args.self.now c.self.view_is here all m.users.ok.0 c.deref_mut.ensures.value whole sized
    ∙ record-applied m.size c.page_of-page.result (start + m.size - start) c.args.end m.lsns.items m.users.items c.deref_mut.result.now c.put_record.new.user
    c.args.self.now c.args.rec.now c.self.view_is c.page_of-page.ensures c.requires.page c.deref_mut.ensures.value whole c.put_record.ensures
