-- A machine that begins shows the first state of its image's run.
use Rattle.std.proofs.Common.{◌≡◌, ℕ, zero, suc, ◌+◌, ◌<◌, List, [], ◌∷◌, Some, length, map, replicate, All, false, refl, sym, ap, ◌∙◌, subst, ⊎_elim, arith}
use Rattle.std.specs.Prelude.{if◌then◌else◌, nat_eq, slice_get, slice_index, slice_index_or, slice_set}
use Rattle.std.proofs.lemmas.Bool.{cases_lt}
use Rattle.std.proofs.lemmas.Grind.{common_steps}
use Rattle.std.proofs.lemmas.List.{get_or-replicate, length-replicate}
use Rattle.std.proofs.lemmas.List.Elements.{All-map}
use Rattle.std.proofs.lemmas.Option.{slice_get-get_or}
use Rattle.ax_map.specs.Map.{IsFrameSize, frame_base}
use Rattle.ax_store.specs.Store.{storage_of}
use Rattle.ax_tags.specs.declared.tags.Role.TheVariants.{None as Outside}
use Rattle.ax_isa.specs.declared.cpu.Status.TheVariants.{Running}
use Rattle.ax_isa.specs.declared.images.Image.{Image}
use Rattle.ax_isa.specs.Processor.{processor_of}
use Rattle.ax_isa.specs.Run.{Machine, start_processor, start_regs, tag_at, run, explain}
use Rattle.ax_isa.specs.Steps.{Kind}
use Rattle.ax_isa.specs.Tells.{given_of}
use Rattle.ax_source_run.specs.SourceState.{SourceProgram}
use Rattle.ax_agree.specs.Agree.{is_native_entry}
use Rattle.ax_agree.specs.Library.{image_setting}
use Rattle.ax_agree.specs.Lowers.{AreEntriesOf, first_byte, machine_begins, region_end}
use Rattle.ax_agree.specs.Sound.{HasFunctions}
use Rattle.ax_run.specs.Machine.{MachineState, Shows, Tells, idle}
use Rattle.ax_run.specs.Start.{cpus_from, first_cpu, frames_for, storage_with}
use Rattle.ax_run.proofs.Telling.{set_one}

-- ---- lists of zeros
pub zeros : (n k : ℕ) → slice_index (replicate n 0) k ≡ 0
zeros n k = ⊎_elim (λ h. get_or-replicate n k 0 0 h) (λ h. grind (arith, common_steps)) (cases_lt k n)

-- ---- processors
pub cpus_length : (stack : ℕ) (places : List ℕ) (p : ℕ) (entries : List ℕ) → length (cpus_from stack places p entries) ≡ length entries
cpus_length stack places p [] = refl
cpus_length stack places p (f ∷ es) = ap suc (cpus_length stack places (p + 1) es)

pub frames_length : (sizes entries : List ℕ) → length (frames_for sizes entries) ≡ length entries
frames_length sizes [] = refl
frames_length sizes (f ∷ es) = ap suc (frames_length sizes es)

module _ (stack : ℕ) (small : stack < 32) where
  first_is : (p place : ℕ) → processor_of (first_cpu stack p place) ≡ start_processor stack p (Some place)
  first_is p place = λ d. record { regs = λ r. at r d; compared = (0, 0); half = false; place = place; status = Running; role = Outside }
    where
      at : (r : ℕ) → slice_index_or (slice_set (replicate 32 0) stack (frame_base p + 131064)) r 0 ≡ start_regs stack p r
      at r = set_one (replicate 32 0) stack (frame_base p + 131064) r (omega (arith, small, length-replicate {A = ℕ} 32 0)) ∙ ap (λ x. if nat_eq r stack then frame_base p + 131064 else x) (zeros 32 r)

  begun_at : (places : List ℕ) (p : ℕ) (entries : List ℕ) (q k : ℕ) → k ≡ p + q → q < length entries
      → processor_of (slice_index_or (cpus_from stack places p entries) q idle) ≡ start_processor stack k (slice_get (map (λ f. slice_index_or places f 0) entries) q)
  begun_at places p [] q k e l = absurd (omega arith)
  begun_at places p (f ∷ es) zero k e l = first_is p (slice_index_or places f 0) ∙ (let same : p ≡ k = omega arith in ap (λ j. start_processor stack j (Some (slice_index_or places f 0))) same)
  begun_at places p (f ∷ es) (suc q) k e l = begun_at places (p + 1) es q k (omega arith) (omega arith)

module _ {I : Type 0} (image : Image I) (program : SourceProgram) (entries : List ℕ) where
  known : (functions k d : ℕ) → AreEntriesOf program.source entries → functions ≡ length program.source.functions → k < length entries → slice_index_or entries k d < functions
  known functions k d are e h = (let l : slice_index_or entries k d < length program.source.functions = are.each k _ (slice_get-get_or entries k d h) in omega arith)

  pub entries_known : HasFunctions (length program.source.functions) image → AreEntriesOf program.source entries → All (λ f. f < length image.entries) entries
  entries_known sound are = λ k d h. known (length image.entries) k d are sound.entries h

  pub frames_known : HasFunctions (length program.source.functions) image → AreEntriesOf program.source entries → All (λ f. f < length image.frames) entries
  frames_known sound are = λ k d h. known (length image.frames) k d are sound.frames h

  pub frames_fit : HasFunctions (length program.source.functions) image → AreEntriesOf program.source entries → All IsFrameSize (frames_for image.frames entries)
  frames_fit sound are = All-map IsFrameSize (λ f. slice_index_or image.frames f 0) entries (λ k d h. sound.sizes _ 0 (frames_known sound are k d h))

  pub started : (kind : Kind I) (stack : ℕ) → stack ≡ kind.stack → stack < 32 → (r : MachineState) → r.program ≡ program → r.events ≡ [] → r.sources ≡ [] → r.outputs ≡ []
      → r.processors ≡ cpus_from stack image.entries 0 entries → r.retired ≡ replicate 8 0
      → storage_of r.store ≡ storage_with (region_end program) (frames_for image.frames entries) (first_byte program)
      → Tells kind image (machine_begins kind image program entries) r
  started kind stack pointer small r of none given written cpus cells storage =
      record {
        sources = given ∙ sym (ap (λ es. explain (image_setting kind image) given_of (tag_at image.tags) (is_native_entry r.program) es begins) none);
        shows = subst (λ es. Shows r (run (image_setting kind image) es begins)) (sym none) shows;
      }
    where
      begins : Machine
      begins = machine_begins kind image program entries

      count : length r.processors ≡ length entries
      count = ap length cpus ∙ cpus_length stack image.entries 0 entries

      shows : Shows r begins
      shows =
          record {
            processors = λ q l.
                ap (λ cs. processor_of (slice_index_or cs q idle)) cpus
                ∙ begun_at stack small image.entries 0 entries q q (omega arith) (let e = count in omega arith)
                ∙ ap (λ s. start_processor s q (slice_get (map (λ f. slice_index_or image.entries f 0) entries) q)) pointer;
            storage = storage;
            outputs = written;
            retired = λ q l. ap (λ xs. slice_index_or xs q 0) cells ∙ zeros 8 q;
          }
