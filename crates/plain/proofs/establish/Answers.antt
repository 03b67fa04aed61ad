use mathlib.Core.Path.{sym, ap, ◌∙◌}
use native.Mathlib.Omega.{arith}
use lib.ListN.{length, replicate}
use Prim.Native.Nat.{ℕ}
use borrow.Author.Tests.{not-true, not-false}
use Rattle.rules.specs.Book.{state, place, shape_fits}
use Rattle.rules.specs.Calls.{establishing}
use Rattle.begins.proofs.Begins.{start_of}
use Rattle.entry.proofs.Tests.{shape_legal, shape_sizes}
use Rattle.rules.specs.declared.Run.{Run}
use Rattle.plain.proofs.Plain.{refused_as, done_as, establish_is, establish_shape, establish_right, establish_done}
use Rattle.rules.specs.declared.File.{File}
use Rattle.plain.specs.Done.{done_reply}
use Rattle.rules.specs.declared.Refusal.TheVariants.{BadBook, RightMissing}
use Rattle.plain.proofs.establish.Goals as goal

pub returns-then-not-shape_fits : goal.returns-then-not-shape_fits
returns-then-not-shape_fits c = refused_as c.args.file c.args.end c.args.text.now c.args.lines.now c.args.pages.now c.start-start.ensures establishing BadBook (establish_shape c.args.file c.args.end c.args.text.now c.args.lines.now c.args.pages.now (sym (ap (λ (r : Run). shape_fits (length c.args.text.now) (state r c.args.lines.now c.args.pages.now)) c.start-start.ensures) ∙ sym c.shape_fits.ensures ∙ c.if-not-shape_fits.true)) c.refuse.ensures ∙ sym (establish_is c.args.file c.args.end c.args.text.now c.args.lines.now c.args.pages.now)

pub returns-then-not-file : goal.returns-then-not-file
returns-then-not-file c = refused_as c.args.file c.args.end c.args.text.now c.args.lines.now c.args.pages.now c.start-start.ensures establishing RightMissing (establish_right c.args.file c.args.end c.args.text.now c.args.lines.now c.args.pages.now (sym (ap (λ (r : Run). shape_fits (length c.args.text.now) (state r c.args.lines.now c.args.pages.now)) c.start-start.ensures) ∙ sym c.shape_fits.ensures ∙ c.if-not-shape_fits.false) (not-true c.args.file.rights.put c.if-not-file.true)) c.refuse-then-not-file.ensures ∙ sym (establish_is c.args.file c.args.end c.args.text.now c.args.lines.now c.args.pages.now)

pub overflow_cast-file : goal.overflow_cast-file
overflow_cast-file c = omega (arith, (shape_legal (length c.args.text.now) (start_of c.args.file c.args.end c.args.lines.now c.args.pages.now) (sym (ap (λ (r : Run). shape_fits (length c.args.text.now) (state r c.args.lines.now c.args.pages.now)) c.start-start.ensures) ∙ sym c.shape_fits.ensures ∙ c.if-not-shape_fits.false)).characters)

pub overflow_cast-file-2 : goal.overflow_cast-file-2
overflow_cast-file-2 c = omega (arith, (shape_legal (length c.args.text.now) (start_of c.args.file c.args.end c.args.lines.now c.args.pages.now) (sym (ap (λ (r : Run). shape_fits (length c.args.text.now) (state r c.args.lines.now c.args.pages.now)) c.start-start.ensures) ∙ sym c.shape_fits.ensures ∙ c.if-not-shape_fits.false)).lines)

pub returns : goal.returns
returns c = done_as c.args.file c.args.end c.args.text.now c.args.lines.now c.args.pages.now establishing _ _ _ _ (establish_done c.args.file c.args.end c.args.text.now c.args.lines.now c.args.pages.now (sym (ap (λ (r : Run). shape_fits (length c.args.text.now) (state r c.args.lines.now c.args.pages.now)) c.start-start.ensures) ∙ sym c.shape_fits.ensures ∙ c.if-not-shape_fits.false) (not-false c.args.file.rights.put c.if-not-file.false) (c.fill.ensures.after (λ y e. e) ∙ ap (λ (k : ℕ). replicate k c.args.file.shape.characters) (shape_sizes (length c.args.text.now) (start_of c.args.file c.args.end c.args.lines.now c.args.pages.now) (sym (ap (λ (r : Run). shape_fits (length c.args.text.now) (state r c.args.lines.now c.args.pages.now)) c.start-start.ensures) ∙ sym c.shape_fits.ensures ∙ c.if-not-shape_fits.false)).lines) (c.fill-2.ensures.after (λ y e. e) ∙ ap (λ (k : ℕ). replicate k c.args.file.shape.lines) (shape_sizes (length c.args.text.now) (start_of c.args.file c.args.end c.args.lines.now c.args.pages.now) (sym (ap (λ (r : Run). shape_fits (length c.args.text.now) (state r c.args.lines.now c.args.pages.now)) c.start-start.ensures) ∙ sym c.shape_fits.ensures ∙ c.if-not-shape_fits.false)).pages)) (c.done.ensures ∙ ap (λ (f : File). done_reply f (place 1 1 1)) c.established.ensures) ∙ sym (establish_is c.args.file c.args.end c.args.text.now c.args.lines.now c.args.pages.now)
