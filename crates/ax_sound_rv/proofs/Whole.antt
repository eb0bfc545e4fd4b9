-- RV64's pieces are sound, and so are its images.
use Rattle.std.proofs.Common.{◌≡◌, ℕ, true, ◌&&◌, refl, arith}
use Rattle.std.proofs.lemmas.Bool.{and_parts}
use Rattle.ax_source_run.specs.SourceState.{SourceProgram}
use Rattle.ax_target.specs.declared.target.Target.{Target}
use Rattle.ax_target.specs.Decisions.{is_rv64}
use Rattle.ax_map.specs.Map.{IsFrameSize}
use Rattle.ax_rv.specs.Instructions.{IsInstr, rv_kind}
use Rattle.ax_mid.specs.declared.registers.Virtual.{Virtual}
use Rattle.ax_emit_rv.specs.Emitters.{LineCodeIsSteady}
use Rattle.ax_image_rv.specs.Image.{frame_depth, frame_size}
use Rattle.ax_llsc.specs.Laws.{DirectCodeIsSteady}
use Rattle.ax_direct_rv.specs.Direct.{direct_expansions, is_built, is_direct_module}
use Rattle.ax_selected.specs.Direct.{needs_no_routine}
use Rattle.ax_selected.specs.Registers.{key}
use Rattle.ax_sound.specs.Laws.{ImagesAreShort, ImagesAreSound, behind_in}
use Rattle.ax_sound.specs.Pieces.{HasSoundPieces}
use Rattle.ax_sound_rv.specs.Short.{DirectImagesAreShort}
use Rattle.ax_sound_rv.specs.Sound.{DirectImagesAreSound}
use Rattle.ax_sound_rv.proofs.Lines.{line_good}
use Rattle.ax_sound_rv.proofs.Sizes.{direct_coding, size_least, size_most}

frame_is : IsFrameSize frame_size
frame_is = record { least = omega arith; most = omega arith; step = refl }

module _ (lines : LineCodeIsSteady Virtual) (operations : DirectCodeIsSteady) where
  pieces_are_sound : (target : Target) (behind : ℕ → ℕ) → HasSoundPieces rv_kind IsInstr target behind (direct_coding target behind)
  pieces_are_sound target behind = record {
    steady = lines key frame_depth behind (direct_expansions target) (operations target);
    most = size_most target behind;
    least = size_least target behind;
    good = λ i places size start fit at. line_good target behind places size i start fit at;
    frame = frame_is;
  }

  no_routine : (program : SourceProgram) → is_built program ≡ true → needs_no_routine program ≡ true
  no_routine program built = (and_parts (is_rv64 program.target) (needs_no_routine program) (and_parts (is_rv64 program.target && needs_no_routine program) (is_direct_module program) built).0).1

  pub images_are_short : ImagesAreShort rv_kind IsInstr → DirectImagesAreShort
  images_are_short law program built accepted =
      let s = law program (direct_coding program.target (behind_in program)) (no_routine program built) accepted (pieces_are_sound program.target (behind_in program)) in
      record { end = s.end; code = s.code; lines = s.lines }

  pub images_are_sound : ImagesAreSound rv_kind IsInstr → DirectImagesAreSound
  images_are_sound law program built accepted names same are =
      law program (direct_coding program.target (behind_in program)) (no_routine program built) accepted (pieces_are_sound program.target (behind_in program)) names same are
