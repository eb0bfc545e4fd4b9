use Rattle.std.proofs.Common.{◌≡◌, ℕ, List, refl, sym, ap, ◌∙◌, slice_get}
use Rattle.ax_mid.specs.declared.code.Line.{Line}
use Rattle.ax_mid.specs.declared.registers.Virtual.{Virtual}
use Rattle.ax_mid.specs.Machine.{behind_label}
use Rattle.ax_emit.specs.Behind.{behind_in}
use Rattle.ax_emit_rv.specs.Code.{line_code, line_size}
use Rattle.ax_emit_rv.specs.Emitters.{slot_of}
use Rattle.ax_image_rv.specs.Image.{frame_depth}
use Rattle.ax_direct_rv.specs.Direct.{direct_expansions}
use Rattle.ax_selected.specs.Registers.{key}
use Rattle.ax_selected.specs.Selected.{selected}
use Rattle.ax_lower.specs.Coding.{direct_coding}
use Rattle.ax_lower.proofs.Taking.{line_taken}
use Rattle.ax_lower.proofs.image.image_of.Goals as goal

pub image_of-requires-clause-taken : goal.image_of-requires-clause-taken
image_of-requires-clause-taken c =
    λ j line at.
    let lines : c.as_slice-lines.result.now ≡ (selected c.args.a.now).lines = c.as_slice-lines.ensures ∙ ap (λ m. m.lines) c.requires.middle in
    line_taken line (c.selected_lines_are_small.ensures c.args.a.now c.is_without_faults.ensures j line (sym (ap (λ (ls : List (Line Virtual)). slice_get ls j) lines) ∙ at))

pub returns : goal.returns
returns c =
    let program = c.args.a.now in
    let lines : c.as_slice-lines.result.now ≡ (selected program).lines = c.as_slice-lines.ensures ∙ ap (λ m. m.lines) c.requires.middle in
    let labels : (n : ℕ) → behind_in c.in_ok-labels.labels n ≡ behind_label key (selected program).lines n 0 = λ n. c.in_ok-labels.ensures key n ∙ ap (λ (ls : List (Line Virtual)). behind_label key ls n 0) lines in
    c.in_ok-image.ensures (record { coding = direct_coding program; program = program }) (record {
      sizes_are = λ d line. line_size slot_of frame_depth (λ n. labels n d) (direct_expansions (c.target.ensures d)) line;
      codes_are = λ d places start line. line_code slot_of frame_depth (λ n. labels n d) (direct_expansions (c.target.ensures d)) places start line;
      lines_are = lines;
      labels_are = labels;
      functions_are = c.as_slice-functions.ensures ∙ ap (λ m. m.functions) c.module.ensures;
      frame_is = refl;
    })
