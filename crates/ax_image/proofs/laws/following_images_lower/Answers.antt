use Rattle.ax_image.proofs.Lowered.{image_lowers}
use Rattle.ax_image.proofs.laws.following_images_lower.Goals as goal

pub returns : goal.returns
returns g c =
    λ case.
    image_lowers g.C.CodedModule.kind (g.C.CodedModule.coding case) (g.C.CodedModule.program case) g.C.CodedModule.fixed (g.C.CodedModule.most case) (record {
      lowers = c.following_code_lowers.ensures case;
      formed = c.selected_code_is_formed.ensures;
      typed = c.numbers_are_typed.ensures.start;
      laid = c.accepted_can_be_laid_out.ensures;
      those = c.objects_are_apart.ensures.globals;
    })
