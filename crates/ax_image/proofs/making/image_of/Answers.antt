use Rattle.std.proofs.Common.{◌≡◌, List, map, ap, ◌∙◌}
use Rattle.ax_module.specs.declared.module.Function.{Function}
use Rattle.ax_mid.specs.declared.code.Line.{Line}
use Rattle.ax_mid.specs.declared.registers.Virtual.{Virtual}
use Rattle.ax_emit.specs.Behind.{behind_in}
use Rattle.ax_emit.specs.Images.{code_in, image_of}
use Rattle.ax_emit.specs.Passes.{places_from, tags_of}
use Rattle.ax_emit.specs.Sites.{ranges_from}
use Rattle.ax_image.specs.Entries.{entries_at}
use Rattle.ax_image.specs.Image.{size_of}
use Rattle.ax_image.proofs.Made.{image_is}
use Rattle.ax_image.proofs.making.image_of.Goals as goal

pub returns : goal.returns
returns g c = λ x given.
    let labels = behind_in c.args.labels.now in
    let places = c.in_ok-emitted.emitted.places.items in
    let size = size_of x.coding in
    let own : places ≡ places_from size 1 c.args.lines.now = c.in_ok-emitted.ensures.places ∙ ap (λ s. places_from s 1 c.args.lines.now) given.sizes_are in
    image_is x c.places_agree.ensures labels places _ (record {
      labels_are = given.labels_are;
      places_are = own ∙ ap (λ (ls : List (Line Virtual)). places_from size 1 ls) given.lines_are;
      code = c.of.ensures ∙ (c.in_ok-emitted.ensures.code ∙ (λ d. code_in (image_of (given.sizes_are d) (given.codes_are d) (given.lines_are d))));
      tags = c.of-2.ensures ∙ (c.in_ok-emitted.ensures.tags ∙ (λ d. tags_of (image_of (given.sizes_are d) (given.codes_are d) (given.lines_are d))));
      sites = c.of-3.ensures ∙ (c.in_ok-sites.ensures size (c.as_slice-places.ensures.value ∙ own) ∙ ap (λ (ls : List (Line Virtual)). ranges_from size 1 ls) given.lines_are);
      routines = c.of-4.ensures ∙ c.new.ensures.items;
      entries =
          c.of-5.ensures
          ∙ (c.in_ok-entries.ensures
          ∙ (ap (λ ps. entries_at labels ps 0 c.args.functions.now) c.as_slice-places.ensures.value
          ∙ ap (λ (fs : List Function). entries_at labels places 0 fs) given.functions_are));
      frames =
          c.of-6.ensures
          ∙ (c.in_ok-frames.ensures ∙ (ap (λ n. map (λ (f : Function). n) c.args.functions.now) given.frame_is ∙ ap (λ (fs : List Function). map (λ (f : Function). x.coding.frame_size) fs) given.functions_are));
    })
