-- The page's bytes, split, are those that the batch has for it.
use Rattle.std.proofs.Common.{List, [], ap, arith, drop, length, length-append, subst, sym, take, ℕ, ◌++◌, ◌+◌, ◌-◌, ◌<◌, ◌∙◌, ◌∷◌, ◌≡◌}
use Rattle.model_base.specs.{frame_length}
use Rattle.model_base.specs.declared.limits.TheConstants.{USER_START}
use Rattle.model_core.specs.{CleanerState}
use Rattle.redo_pageactors.proofs.BatchPages.{batch_pages_enter, length_batch_pages, with_one_more}
use Rattle.redo_pageactors.specs.CleanerView.{batch_pages, BatchFitsStep}
use Rattle.redo_pageactors.proofs.cleaner.Cleaner.enters_batch.Goals as goal

pub invariant_of-self : goal.invariant_of-self
invariant_of-self c =
    let I = c.self.invariant in
    let n = c.self.inside.page_size - frame_length in
    let pairs = c.self.inside.batch.items in
    let loaded = subst (λ (v : CleanerState). length v.kept ≡ v.page_size) (sym c.self.view_is) c.requires.loaded in
    let deref = ap length c.deref.ensures.value in
    let one : length pairs + 1 ≡ length c.push_reserved.new.self.items =
    sym (ap length c.push_reserved.ensures.items ∙ length-append pairs ((c.self.inside.page, c.self.inside.newest) ∷ [])) in
    let room = subst (λ (v : CleanerState). length v.batch < v.slots) (sym c.self.view_is) c.requires.room in
    record {
      page = I.page;
      page_size = I.page_size;
      some_slots = I.some_slots;
      kept = omega (arith, ap length c.clear.ensures.items);
      batch = omega (arith, length_batch_pages n pairs c.self.inside.users.items c.self.inside.rims.items);
      users = omega (arith, with_one_more (length pairs) (length c.push_reserved.new.self.items) n one);
      rims = omega arith;
      kept_room = omega arith;
      batch_room = omega arith;
      users_room = omega arith;
      rims_room = omega arith;
      step = subst (BatchFitsStep c.self.inside.page_size c.self.inside.slots (length c.clear.new.self.items) (length c.push_reserved.new.self.items))
          (sym (ap (λ (v : CleanerState). v.step) c.self.view_is ∙ c.requires.step)) tt;
    }

pub returns : goal.returns
returns c =
    let s = c.self.inside in
    let n = s.page_size - frame_length in
    let loaded : length s.kept.items ≡ s.page_size = subst (λ (v : CleanerState). length v.kept ≡ v.page_size) (sym c.self.view_is) c.requires.loaded in
    let e = batch_pages_enter n s.batch.items s.users.items s.rims.items s.page s.newest s.kept.items
    (omega (arith, c.self.invariant.page_size.least)) c.self.invariant.users c.self.invariant.rims in
    let k : c.clear.new.self.items ≡ [] = c.clear.ensures.items in
    let b = c.push_reserved.ensures.items in
    let d : c.deref.result.now ≡ s.kept.items = c.deref.ensures.value in
    let u = c.split_page.ensures.users ∙ ap (λ (k : List ℕ). s.users.items ++ take (length k - frame_length) (drop USER_START k)) d in
    let r = c.split_page.ensures.rims ∙ ap (λ (k : List ℕ). (s.rims.items ++ take USER_START k) ++ drop (length k - frame_length) (drop USER_START k)) d in
    let new : List ℕ → CleanerState = λ kept. record { pages = s.pages; page_size = s.page_size; slots = s.slots; flushed = s.flushed; page = s.page; left = s.left; newest = s.newest; kept = kept; batch = batch_pages n c.push_reserved.new.self.items c.split_page.new.users.items c.split_page.new.rims.items; code = s.code; checks = s.checks; step = s.step } in
    subst (λ (v : CleanerState). new c.clear.new.self.items ≡ record v { batch = v.batch ++ (record { page = v.page; lsn = v.newest; bytes = v.kept }) ∷ []; kept = [] }) c.self.view_is
    ((λ i. new (k i)) ∙ ((λ i. record { pages = s.pages; page_size = s.page_size; slots = s.slots; flushed = s.flushed; page = s.page; left = s.left; newest = s.newest; kept = []; batch = batch_pages n (b i) (u i) (r i); code = s.code; checks = s.checks; step = s.step })
    ∙ (λ i. record { pages = s.pages; page_size = s.page_size; slots = s.slots; flushed = s.flushed; page = s.page; left = s.left; newest = s.newest; kept = []; batch = e i; code = s.code; checks = s.checks; step = s.step })))
