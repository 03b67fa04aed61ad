-- The ways out of the writing ends of a line and of a page, each over variables, so that a proof of code cites one with the facts that it
-- has. Assumes nothing.
use Prim.Native.Nat.{ℕ, ◌+◌, ◌-◌}
use mathlib.Core.Path.{◌≡◌, ap, ◌∙◌}
use mathlib.Core.List.{List}
use mathlib.Core.Bool.{true, false}
use lib.Dec.{eqb}
use lib.ListN.{set}
use Rattle.rules.specs.declared.Run.{Run}
use Rattle.rules.specs.Book.{choose, lengths, page_length, line_index, next_line, next_page, both_moved_to, state}
use Rattle.rules.specs.Step.{Out, done, and_then, change_run, ◌>>=◌, pure, change, test, branch, page_ended, blank_line, blank_lines, cut_line, cut_page, fill_line, fill_page, end_line, end_page}

module _ (r x : Run) (t l p : List ℕ) where
  pub end_line_cut : (ls : List ℕ) (i : ℕ) → r.file.rights.compress ≡ true → i ≡ line_index r.file.shape r.file.position.page r.file.position.line
      → ls ≡ set l i (r.file.position.character - 1) → x ≡ both_moved_to r (next_line r.file.position) → done (tt {0}) (state x ls p) t ≡ end_line (state r l p) t
  unfolding end_line ◌>>=◌ test branch change cut_line
  end_line_cut ls i hc hi hl hx = rw (hx, hl, hi, hc)

  pub end_line_fill : (t' : List ℕ) → r.file.rights.compress ≡ false → t' ≡ blank_line r.file.shape (lengths l p) r.file.position t
      → x ≡ both_moved_to r (next_line r.file.position) → done (tt {0}) (state x l p) t' ≡ end_line (state r l p) t
  unfolding end_line ◌>>=◌ test branch change fill_line
  end_line_fill t' hc ht hx = rw (hx, ht, hc)

  pub end_page_full : r.file.rights.compress ≡ true → page_ended r p ≡ true → x ≡ both_moved_to r (next_page r.file.position) → done (tt {0}) (state x l p) t ≡ end_page (state r l p) t
  unfolding end_page ◌>>=◌ test branch change pure
  end_page_full hc hp hx = rw (hx, hc, hp)

  pub end_page_cut : (ls ps : List ℕ) (i n : ℕ) → r.file.rights.compress ≡ true → page_ended r p ≡ false → i ≡ line_index r.file.shape r.file.position.page r.file.position.line
      → ls ≡ set l i (r.file.position.character - 1) → n ≡ choose (eqb r.file.position.character 1) (r.file.position.line - 1) r.file.position.line
      → ps ≡ set p (r.file.position.page - 1) n → x ≡ both_moved_to r (next_page r.file.position) → done (tt {0}) (state x ls ps) t ≡ end_page (state r l p) t
  unfolding end_page ◌>>=◌ test branch change cut_line cut_page
  end_page_cut ls ps i n hc hp hi hl hn hs hx = rw (hx, hs, hn, hl, hi, hc, hp)

  -- the position goes on after the page is filled
  filled : (o : Out Unit) → r.file.rights.compress ≡ false → o ≡ fill_page (state r l p) t → and_then (λ u. change_run (λ r'. both_moved_to r' (next_page r'.file.position))) o ≡ end_page (state r l p) t
  unfolding end_page ◌>>=◌ test branch
  filled o hc ho = rw (ho, hc)

  pub end_page_fill : (t' l' p' : List ℕ) → r.file.rights.compress ≡ false → done (tt {0}) (state r l' p') t' ≡ fill_page (state r l p) t
      → x ≡ both_moved_to r (next_page r.file.position) → done (tt {0}) (state x l' p') t' ≡ end_page (state r l p) t
  unfolding change
  end_page_fill t' l' p' hc hf hx = ap (λ (y : Run). done (tt {0}) (state y l' p') t') hx ∙ filled (done (tt {0}) (state r l' p') t') hc hf

module _ (r : Run) (t l p : List ℕ) where
  pub page_blanked : (t₁ t' : List ℕ) (size rest : ℕ) → t₁ ≡ blank_line r.file.shape (lengths l p) r.file.position t
      → size ≡ page_length p r.file.position.page → rest ≡ size - r.file.position.line → t' ≡ blank_lines r.file.shape (lengths l p) rest r.file.position.page (r.file.position.line + 1) t₁
      → done (tt {0}) (state r l p) t' ≡ fill_page (state r l p) t
  unfolding fill_page
  page_blanked t₁ t' size rest h₁ hs hr ht = rw (ht, hr, hs, h₁)
