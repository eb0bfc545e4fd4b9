use Rattle.std.proofs.Common.{◌≡◌, All, length, List, ℕ, refl, sym, ap, ◌∙◌, subst, arith}
use Rattle.ax_map.specs.Map.{IsFrameSize}
use Rattle.ax_store.specs.Storage.{Storage}
use Rattle.ax_agree.specs.Agree.{native_entries}
use Rattle.ax_agree.specs.Lowers.{first_byte, region_end}
use Rattle.ax_run.specs.Start.{cpus_from, frames_for, storage_with}
use Rattle.ax_run.proofs.Starting.{cpus_length, frames_fit, frames_length, started, zeros}
use Rattle.ax_run.proofs.start.start_image.Goals as goal

pub store-requires-clause-sizes : goal.store-requires-clause-sizes
store-requires-clause-sizes g c =
    let frames : c.as_slice-3.result.now ≡ frames_for c.args.image.now.frames c.args.entries.now =
    c.as_slice-3.ensures.value ∙ c.in_ok-frames.ensures ∙ ap (λ sizes. frames_for sizes c.args.entries.now) c.as_slice.ensures
    in
    subst (λ (sizes : List ℕ). All IsFrameSize sizes) (sym frames) (frames_fit c.args.image.now c.args.program.now c.args.entries.now c.requires.functions c.requires.entries)

pub invariant_of-result : goal.invariant_of-result
invariant_of-result g c =
    let entries = c.args.entries.now in
    let count : length c.in_ok-cpus.cpus.items ≡ length entries = ap length c.in_ok-cpus.ensures ∙ cpus_length c.args.stack c.as_slice-2.result.now 0 entries in
    let frames : length c.as_slice-3.result.now ≡ length entries = ap length (c.as_slice-3.ensures.value ∙ c.in_ok-frames.ensures) ∙ frames_length c.as_slice.result.now entries in (
      omega (arith, c.in_ok-outputs.ensures.len, c.in_ok-outputs.ensures.exact),
      omega (arith, c.in_ok-sources.ensures.len, c.in_ok-sources.ensures.exact),
      omega (arith, c.in_ok-made.ensures.len, c.in_ok-made.ensures.exact),
      record {
        count = c.in_ok-store.ensures.processors ∙ frames ∙ sym count;
        some = (let h = c.requires.entries.some in omega arith);
        few = (let h = c.requires.entries.few in omega arith);
        cells = refl;
        retired = λ q. omega (arith, zeros 8 q, c.requires.events);
        spares = λ buffers q less. c.in_ok-store.ensures.spares buffers q (omega (arith, less, count, frames));
        counters = refl;
        natives = λ q less. zeros 8 q ∙ sym (ap (λ (st : Storage). length (native_entries c.args.program.now (st.waiting q))) c.in_ok-store.ensures.storage);
      },
    )

pub returns : goal.returns
returns g c =
    let entries = c.args.entries.now in
    let program = c.args.program.now in
    let frames : c.as_slice-3.result.now ≡ frames_for c.args.image.now.frames entries =
    c.as_slice-3.ensures.value ∙ c.in_ok-frames.ensures ∙ ap (λ sizes. frames_for sizes entries) c.as_slice.ensures
    in
    let law : g.I.Isa.BUFFERED ≡ g.I.Isa.kind.buffered = g.met.I.Isa.buffered_of_kind in
    record {
      program_is = refl;
      buffered = c.in_ok-store.ensures.kind ∙ c.BUFFERED.ensures ∙ law;
      count = ap length c.in_ok-cpus.ensures ∙ cpus_length c.args.stack c.as_slice-2.result.now 0 c.args.entries.now;
      none = c.in_ok-made.ensures.items;
      room = refl;
      tells =
          started c.args.image.now program entries g.I.Isa.kind c.args.stack c.requires.stack c.requires.register _ refl c.in_ok-made.ensures.items c.in_ok-sources.ensures.items c.in_ok-outputs.ensures.items
          (c.in_ok-cpus.ensures ∙ ap (λ places. cpus_from c.args.stack places 0 entries) c.as_slice-2.ensures)
          refl
          (c.in_ok-store.ensures.storage ∙ ap (λ sizes. storage_with (region_end program) sizes (first_byte program)) frames);
    }
