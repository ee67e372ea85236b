-- Each load of a reader leaves what holds of a page that is read.
use Rattle.std.proofs.Common.{List, [], ap, append_assoc, append-nil, arith, length, length-append, refl, subst, sym, take, true, ℕ, ⊎_elim, inl, inr, ◌*◌, ◌++◌, ◌+◌, ◌<◌, ◌∙◌, ◌∷◌, ◌≡◌, ◌≤◌, ◌⊎◌}
use Rattle.std.proofs.lemmas.List.{take-take}
use Rattle.std.specs.Prelude.{slice_index}
use lib.ListN.{get_elem?}
use mathlib.Core.Option.{some}
use native.Mathlib.Decide.{ℕ_discrete}
unfoldable use Rattle.model_core.specs.Lanes.{lanes}
use Rattle.model_core.proofs.FrameWords.{framed_next}
use Rattle.model_core.proofs.PageSizes.{frame_fills}
use Rattle.model_core.specs.{Actor, Entry, flat, framed_page, index, layout_of, Listed, lsn, page_words_at, PageWords, SharedWords, sn_at, frame_bytes, frame_words, DataSide, LogSide, Setup}
use Rattle.model_core.specs.declared.words.Word.TheVariants as word
use Rattle.model_logcore.specs.{LogGhost}
use Rattle.model_page.specs.{user_part}
use Rattle.model_pagecore.proofs.PageHistory.{last_most, last_some, upto_whole}
use Rattle.model_core.specs.declared.limits.TheConstants.{WORD_LANES}
use Rattle.model_pagecore.specs.{applied_all, applied_upto, end_lsn, is_changed_page, Laid, PageGhost}
use Rattle.model_pagecore.specs.Pages.{last_end}
use Rattle.model_reads.proofs.Stands.{free_stands, Stands, stands}
use Rattle.model_reads.specs.Glances.{added, begun, dated, freed, read_of}
use Rattle.model_reads.specs.Reading.{GlanceFits, HasWords, IsRead, newest_in, top_in}
use Rattle.model_reads.specs.declared.read.Glance.{Glance}
use Rattle.model_running.proofs.FlatWords.{flat_read}
use Rattle.model_running.proofs.PageTurn.{laid_of}
use Rattle.model_running.specs.Watermarks.{BothHalves}

bytes_snoc : (words : List ℕ) (n : ℕ) → frame_bytes (words ++ n ∷ []) ≡ frame_bytes words ++ lanes 0 8 n
bytes_snoc [] n = append-nil (lanes 0 8 n)
bytes_snoc (w ∷ ws) n = ap (λ (l : List ℕ). lanes 0 8 w ++ l) (bytes_snoc ws n)
    ∙ sym (append_assoc (lanes 0 8 w) (frame_bytes ws) (lanes 0 8 n))

module _ (D : LogSide) (E : DataSide) (c : Setup) (m : SharedWords) (g : LogGhost) (h : PageGhost)
    (ls : ℕ → List Listed) (p : D.Part) (d : E.Part) (actors : List Actor)
    (both : BothHalves D E c m g h ls p d actors) (ws : List ℕ) (is_flat : ws ≡ flat m) where
  abbrev words_of : ℕ → PageWords
  words_of q = page_words_at m.page_words q

  abbrev Fits : Glance → Type 0
  Fits x = GlanceFits c ws g.log x

  W : Laid (lsn c.base) (lsn m.sn) g.log
  W = laid_of both

  newest_is : (q : ℕ) → q < c.pages → newest_in c ws q ≡ (words_of q).newest
  newest_is q there = ap (λ (l : List ℕ). slice_index l (index (layout_of c) (word.Newest q))) is_flat
      ∙ flat_read (layout_of c) m both.logged.sized (word.Newest q) there

  top_is : top_in ws ≡ lsn m.sn
  top_is = ap (λ (l : List ℕ). lsn (slice_index l sn_at)) is_flat

  stand : (q : ℕ) → q < c.pages → Stands c q g.log (words_of q)
  stand q there = stands D E c m g h ls p d actors both q there

  last_within : (q : ℕ) → last_end q g.log 0 ≤ lsn m.sn
  last_within q = ⊎_elim (λ none. let z = none.1 in omega arith)
      (λ l. let under = W.under l.0 l.1 l.2 in let e = l.4 in omega arith) (last_some q g.log 0)

  -- NEWEST is loaded first
  pub begun_fits : (q n : ℕ) → q < c.pages → n ≡ newest_in c ws q → Fits (begun q n)
  begun_fits q n there is = record {
    there = there;
    newest = omega arith;
    since = omega arith;
    upto = (let a = newest_is q there in let low = (stand q there).low in let most = last_within q in let t = top_is in
        omega arith);
    words = λ _. refl;
    free = λ seen. absurd (cc);
  }

  -- where NEWEST is that of the last group, the frame has all
  whole : (x : Glance) → Fits x → last_end x.page g.log 0 ≡ x.newest
      → framed_page c.page_size (words_of x.page).frame ≡ applied_all x.page g.log (c.opened x.page).bytes
  whole x o last = let s = stand x.page o.there in let a = newest_is x.page o.there in let up = o.newest in
      let low = s.low in s.whole (omega arith)

  -- the next word of the frame
  pub added_fits : (x : Glance) (n : ℕ) → Fits x → length x.words < frame_words c.page_size
      → n ≡ slice_index ws (index (layout_of c) (word.Frame x.page (length x.words))) → Fits (added x n)
  added_fits x n o room is = record {
    there = o.there;
    newest = o.newest;
    since = o.since;
    upto = o.upto;
    words = λ last. words_then last;
    free = λ seen. absurd (cc);
  }
    where
      frame : List ℕ
      frame = (words_of x.page).frame

      k : ℕ
      k = length x.words

      long : length frame ≡ frame_words c.page_size
      long = both.logged.sized.frames x.page o.there

      found : n ≡ slice_index frame k
      found = is ∙ ap (λ (l : List ℕ). slice_index l (index (layout_of c) (word.Frame x.page k))) is_flat
          ∙ flat_read (layout_of c) m both.logged.sized (word.Frame x.page k) (o.there, room)

      words_then : last_end x.page g.log 0 ≡ x.newest
          → HasWords (x.words ++ n ∷ []) (applied_all x.page g.log (c.opened x.page).bytes)
      words_then last =
          let fills = frame_fills c.page_size both.script.page_size in
          let all : List ℕ = applied_all x.page g.log (c.opened x.page).bytes in
          let so = whole x o last in
          let front : (j : ℕ) → j ≤ c.page_size → take j all ≡ framed_page j frame =
          λ j low. ap (take j) (sym so) ∙ take-take j c.page_size (frame_bytes frame) low in
          let longer : 8 * length (x.words ++ n ∷ []) ≡ 8 * k + 8 =
          (let a = length-append x.words (n ∷ []) in omega arith) in
          bytes_snoc x.words n
          ∙ ap (λ (l : List ℕ). l ++ lanes 0 8 n) (o.words last ∙ front (8 * k) (omega arith))
          ∙ ap (λ (v : ℕ). framed_page (8 * k) frame ++ lanes 0 8 v) found
          ∙ sym (framed_next frame k (omega (arith, long, room))) ∙ sym (front (8 * k + 8) (omega arith))
          ∙ ap (λ (j : ℕ). take j all) (sym longer)

  -- SN
  pub dated_fits : (x : Glance) (n : ℕ) → Fits x → n ≡ slice_index ws sn_at → Fits (dated x n)
  dated_fits x n o is = record {
    there = o.there;
    newest = o.newest;
    since = (let up = o.newest in let a = newest_is x.page o.there in let low = (stand x.page o.there).low in
        let most = last_within x.page in let t = top_is in let e = ap lsn is in omega arith);
    upto = (let e = ap lsn is in omega arith);
    words = o.words;
    free = λ seen. absurd (cc);
  }

  -- its latch, which is free
  pub freed_fits : (x : Glance) → Fits x → slice_index ws (index (layout_of c) (word.Latch x.page)) ≡ 0 → Fits (freed x)
  freed_fits x o free = record {
    there = o.there;
    newest = o.newest;
    since = o.since;
    upto = o.upto;
    words = o.words;
    free = λ _. by (ℕ_discrete x.newest (words_of x.page).newest);
  }
    where
      is_free : (words_of x.page).latch ≡ 0
      is_free = sym (ap (λ (l : List ℕ). slice_index l (index (layout_of c) (word.Latch x.page))) is_flat
          ∙ flat_read (layout_of c) m both.logged.sized (word.Latch x.page) o.there) ∙ free

      last : (words_of x.page).newest ≡ last_end x.page g.log 0
      last = free_stands D E c m g h ls p d actors both x.page o.there is_free

      all_in : x.newest ≡ (words_of x.page).newest → (i : ℕ) (e : Entry) → get_elem? g.log i ≡ some e
          → is_changed_page x.page e.changes ≡ true → end_lsn e ≤ x.upto
      all_in same i e at on = let most = (last_most (lsn c.base) (lsn m.sn) x.page g.log i e W at on).0 in
          let since = o.since in let l = last in omega arith

      by : Dec (x.newest ≡ (words_of x.page).newest)
          → HasWords x.words (applied_upto x.page x.upto g.log (c.opened x.page).bytes)
          ⊎ (x.newest < newest_in c ws x.page)
      by (yes same) = inl (subst (HasWords x.words)
          (sym (upto_whole x.page x.upto g.log (c.opened x.page).bytes (all_in same)))
          (o.words (let l = last in omega arith)))
      by (no other) = inr (let up = o.newest in let a = newest_is x.page o.there in omega arith)

  -- and NEWEST again, which is as it was
  pub read_fits : (x : Glance) → Fits x → x.seen_free ≡ true → WORD_LANES * length x.words ≡ c.page_size
      → newest_in c ws x.page ≡ x.newest → IsRead c ws g.log (read_of x)
  read_fits x o seen long same = record {
    there = o.there;
    upto = o.upto;
    bytes = ⊎_elim
        (λ has. ap user_part (has
        ∙ ap (λ (j : ℕ). take j (applied_upto x.page x.upto g.log (c.opened x.page).bytes)) long))
        (λ less. absurd (omega arith)) (o.free seen);
  }
