-- No processor of an image idles.
use Rattle.std.proofs.Common.{◌≡◌, ℕ, suc, ◌+◌, ◌-◌, ◌*◌, ◌/◌, ◌%◌, ◌^◌, ◌<◌, ◌≤◌, Bool, true, false, List, [], ◌∷◌, Option, Some, None, length, map, refl, sym, ap, ◌∙◌, subst, arith, slice_get}
use Rattle.std.specs.Prelude.{if◌then◌else◌, slice_index_or}
use Rattle.ax_words.specs.declared.mark.Op.{Op}
use Rattle.ax_words.specs.declared.order.Order.{Order}
use Rattle.ax_words.specs.declared.width.Width.{Width}
use Rattle.ax_words.specs.declared.event.Event.{Event}
use Rattle.ax_tags.specs.declared.tags.Role.TheVariants.{None as Outside}
use Rattle.ax_module.specs.declared.module.Function.{Function}
use Rattle.ax_source_run.specs.SourceState.{SourceProgram}
use Rattle.ax_check.specs.Accepted.{IsAccepted}
use Rattle.ax_check.specs.Laws.{IsSoundHead}
use Rattle.ax_isa.specs.Run.{idle_run, start_processor, tag_at}
use Rattle.ax_isa.specs.Tells.{given_of}
use Rattle.ax_agree.specs.Agree.{is_native_entry}
use Rattle.ax_agree.specs.Library.{image_setting, library_of}
use Rattle.ax_agree.specs.Lowers.{byte_in, first_byte, machine_begins}
use Rattle.ax_follow.specs.Bounds.{AreBytes}
use Rattle.ax_layout.specs.declared.address_range.AddressRange.{AddressRange}
use Rattle.ax_map.specs.Map.{covers}
use Rattle.ax_module.specs.declared.module.Module.{Module}
use Rattle.ax_source_run.specs.SourceRun.{first_numbers}
use Rattle.ax_store.specs.Bytes.{byte_of}
use Rattle.ax_rv.specs.Instructions.{rv_kind}
use Rattle.ax_mid.specs.Machine.{behind_label}
use Rattle.ax_emit_rv.specs.Code.{Expansion}
use Rattle.ax_selected.specs.Formed.{SelectedLinesAreSmall}
use Rattle.ax_selected.specs.Registers.{key}
use Rattle.ax_selected.specs.Selected.{selected}
use Rattle.ax_image_rv.specs.Image.{rv_places}
use Rattle.ax_direct_rv.specs.Direct.{direct_draft, direct_expansions, direct_image}
use Rattle.ax_idle_rv.specs.Idle.{DirectImagesNeverIdle}
use Rattle.ax_idle_rv.proofs.Drafts.{Shaped, drafts_fine, label_found, shaped_all}
use Rattle.ax_idle_rv.proofs.Expansions.{alike, expansions_coded}
use Rattle.ax_idle_rv.proofs.Falling.{never_idles}
use Rattle.ax_idle_rv.proofs.Pieces.{Good, phis_in, selected_good}
use Rattle.ax_idle_rv.proofs.Ranks.{Fine, IsInner, most_rank, rank_at}
use Rattle.ax_idle_rv.proofs.Steps.{Within, descends}

pub record Laws : Type 0 where
  pub small : SelectedLinesAreSmall
  pub heads : (program : SourceProgram) (k : ℕ) (f : Function) → IsAccepted program → slice_get program.source.functions k ≡ Some f → IsSoundHead k f

start_outside : (stack p : ℕ) (o : Option ℕ) → (start_processor stack p o).role ≡ Outside
start_outside stack p None = refl
start_outside stack p (Some place) = refl

-- memory begins with bytes
bytes_in : (m : Module) (g : ℕ) (spans : List AddressRange) → AreBytes (byte_in m g spans)
bytes_in m g [] a = omega arith
bytes_in m g (span ∷ spans) a = by (covers span.start (span.count * span.bytes) a) (bytes_in m (g + 1) spans a)
  where
    low : (v i : ℕ) → byte_of v i < 2 ^ 8
    low v i = let x = v / 2 ^ (8 * i) in (let h : x % 2 ^ 8 < 2 ^ 8 = omega arith in h)

    by : (t : Bool) → byte_in m (g + 1) spans a < 2 ^ 8 → (if t then byte_of (first_numbers m g ((a - span.start) / span.bytes)) ((a - span.start) % span.bytes) else byte_in m (g + 1) spans a) < 2 ^ 8
    by true rest = low (first_numbers m g ((a - span.start) / span.bytes)) ((a - span.start) % span.bytes)
    by false rest = rest

first_bytes : (program : SourceProgram) → AreBytes (first_byte program)
first_bytes program = bytes_in program.source 0 program.layout.spans

module _ (program : SourceProgram) (laws : Laws) (accepted : IsAccepted program) (short : length (direct_draft program) + 1 < 2 ^ 32) where
  abbrev expansions : Op → Width → Order → Bool → Expansion
  expansions = direct_expansions program.target

  abbrev places : ℕ → ℕ
  places = rv_places program expansions

  abbrev target : ℕ → ℕ
  target n = places (behind_label key (selected program).lines n 0)

  good : Good (selected program).lines
  good = selected_good program (λ n g e d. phis_in g.blocks d (laws.heads program n g accepted e).phis)

  shaped : Shaped (selected program).lines
  shaped = shaped_all (selected program).lines (λ k line e. (laws.small program accepted k line e).shaped)

  abbrev ranks : ℕ → ℕ
  ranks = rank_at (direct_draft program)

  fine : Fine target ranks 1 (direct_draft program)
  fine = (drafts_fine program expansions (expansions_coded program.target) (alike program.target) places ranks (selected program).lines 1 0 shaped good.0).0 (λ k. (let next : 1 + k ≡ suc k = omega arith in ap ranks next))

  inner : (n : ℕ) → IsInner n → (target n < 2 ^ 32) × (rank_at (direct_draft program) (target n) ≤ 1600)
  inner n is =
      let f = label_found program expansions (expansions_coded program.target) (alike program.target) places ranks (selected program).lines 1 0 n shaped good.0 is in
      let plus : 0 + f.index ≡ f.index = omega arith in
      let offset = f.offset in
      let within = f.within in
      let low = f.low in
      let next : 1 + f.offset ≡ suc f.offset = omega arith in
      let there : target n ≡ suc f.offset = ap places (f.is 0 ∙ plus) ∙ (f.place ∙ next) in (
        omega (arith, there, within, short),
        subst (λ (q : ℕ). rank_at (direct_draft program) q ≤ 1600) (sym there) low,
      )

  few : (entries : List ℕ) (events : List Event) (p : ℕ)
      → idle_run (image_setting rv_kind (direct_image program)) given_of (tag_at (direct_image program).tags) (is_native_entry program) events (machine_begins rv_kind (direct_image program) program entries) (λ q. 0) p ≤ most_rank + 1
  few entries events p =
      never_idles (Within (direct_draft program) (library_of rv_kind []) target fine short inner) (image_setting rv_kind (direct_image program)) most_rank (is_native_entry program) (descends (direct_draft program) (library_of rv_kind []) target fine short inner)
      (machine_begins rv_kind (direct_image program) program entries) (first_bytes program) (λ q. start_outside 2 q (slice_get (map (λ f. slice_index_or (direct_image program).entries f 0) entries) q)) events p

pub images_never_idle : Laws → DirectImagesNeverIdle
images_never_idle laws program accepted short = record { few = λ entries are events p. (let h = few program laws accepted short entries events p in omega (arith, h)) }
