-- THE CODE OF A LOAD OR STORE: in the frame its processor alone sees it, and elsewhere it is an operation on what all share.
use Rattle.std.proofs.Common.{◌≡◌, ℕ, ◌+◌, ◌≤◌, Bool, true, false, List, [], ◌∷◌, ◌++◌, length, refl, sym, ap, ◌∙◌, subst, arith, length-append}
use Rattle.std.specs.Prelude.{if◌then◌else◌}
use Rattle.std.proofs.lemmas.Bool.{false≢true}
use Rattle.std.proofs.lemmas.List.{map-append}
use Rattle.ax_words.specs.declared.source.SourceStatus.TheVariants.{Running as Runs}
use Rattle.ax_store.specs.Storage.{seen}
use Rattle.ax_tags.specs.declared.tags.Tag.{Tag}
use Rattle.ax_tags.specs.declared.tags.Tag.TheVariants.{Silent, Act}
use Rattle.ax_isa.specs.Past.{Noted}
use Rattle.ax_isa.specs.Processor.{Processor}
use Rattle.ax_isa.specs.Steps.{Kind}
use Rattle.ax_isa.specs.Tells.{Library}
use Rattle.ax_follow.specs.Contract.{Happening, InStep, Reading, stage_start}
use Rattle.ax_mid.specs.declared.instruction.MidInst.{MidInst}
use Rattle.ax_mid.specs.declared.instruction.MidInst.TheVariants as mid
use Rattle.ax_mid.specs.Processor.{MidProcessor}
use Rattle.ax_expand.specs.Expands.{reading_of}
use Rattle.ax_expand.specs.Standing.{HasAt, setting_by, silently, wrap}
use Rattle.ax_fine.specs.Fine.{Program, Spelled, asks_if, chosen_by, did_atomic, fine, is_label, is_quiet, plain_by}
use Rattle.ax_emit.specs.Atomics.{gets_all, puts_all}
use Rattle.ax_emit.specs.Laws.{AccessLineFollows}
use Rattle.ax_emit.specs.Lines.{Laid, StandsAt, access_code, performed_code}
use Rattle.ax_emit.specs.Performs.{Performs, at_frame}
use Rattle.ax_emit.specs.Touches.{IsShared, Sharing, is_private_at, load_of, store_of}
use Rattle.ax_emit.proofs.Atomics.{shared_line, wrap_length}
use Rattle.ax_emit.proofs.Lines.{performed}

module _ {R W : Type 0} (m : Program R W) where
  pub load_shared : (to address : R) (n : ℕ) → IsShared m (mid.Load to address n) (load_of m to address n)
  unfolding chosen_by
  load_shared to address n =
      record {
        does = λ g quiet p s w h. ap (λ t. if t then plain_by m g quiet p (mid.Load to address n) s w else did_atomic m quiet g (to ∷ []) s ((m.load n).happens g p (s.regs (m.key address)) [] s.seen w)) h;
        asks = λ p s w h a. subst (λ t. asks_if m t ((m.load n).fits (s.regs (m.key address)) [] w)) h a;
      }

  pub store_shared : (address from : R) (n : ℕ) → IsShared m (mid.Store address from n) (store_of m address from n)
  unfolding chosen_by
  store_shared address from n =
      record {
        does = λ g quiet p s w h. ap (λ t. if t then plain_by m g quiet p (mid.Store address from n) s w else did_atomic m quiet g [] s ((m.store n).happens g p (s.regs (m.key address)) (s.regs (m.key from) ∷ []) s.seen w)) h;
        asks = λ p s w h a. subst (λ t. asks_if m t ((m.store n).fits (s.regs (m.key address)) (s.regs (m.key from) ∷ []) w)) h a;
      }

-- the same code, as that of a line that its processor alone sees
wrap_is : {I : Type 0} (before : List I) (acts : I) (clears after : List I) (start : ℕ) → wrap before (access_code acts clears) after start ≡ performed_code before acts (clears ++ after)
wrap_is before acts clears after start = ap (λ l. silently before ++ (acts, Act) ∷ l) (sym (map-append (λ i. (i, Silent)) clears after))

module _ {I R W : Type 0} (k : Kind I) (m : Program R W) (inst : MidInst R) (z : Sharing R W) (shared : IsShared m inst z) (no_label : is_label inst ≡ false) where
  -- ITS CONTRACT
  pub access_line : AccessLineFollows k m inst z
  access_line table base keeps at ps qs homes acts clears counted expands line is performs bound room =
      record {
        length_is = λ places start. wrap_length k m table base inst z shared keeps at ps qs homes (length clears) (1 + length clears) (access_code acts clears) expands start;
        label = λ e. absurd (false≢true (sym (ap is_label is ∙ no_label) ∙ e));
        follows = λ code tags lib v places own not_label enough h. record { follows = λ p s c n. either code tags lib v places own enough h p s c n (is_private_at m p inst s.regs) refl };
      }
    where
      before : List I
      before = gets_all table ((at, m.key z.address) ∷ ps)

      after : List I
      after = puts_all table qs

      behind_length : length (clears ++ after) ≡ length clears + length after
      behind_length = length-append clears after

      performs_line : (p : ℕ) (c : Processor) (f : ℕ → ℕ) (s : MidProcessor) → Spelled m p c f s → is_private_at m p line.inst s.regs ≡ true → Performs k m p line.inst before acts (clears ++ after) s (at_frame c f)
      performs_line p c f s spelt alone = subst (λ i. Performs k m p i before acts (clears ++ after) s (at_frame c f)) (sym is) (performs p c f s spelt (ap (λ i. is_private_at m p i s.regs) (sym is) ∙ alone))

      either : (code : List I) (tags : ℕ → Tag) (lib : Library) (v : Reading) (places : ℕ → ℕ) (own : ℕ) → bound ≤ v.most
          → StandsAt (setting_by k code tags lib) v m places own (length before + (1 + length clears) + length after) (wrap before (access_code acts clears) after (places own)) line
          → (p : ℕ) (s : MidProcessor) (c : Processor) (n : Noted) (t : Bool) → is_private_at m p inst s.regs ≡ t → s.place ≡ own → s.status ≡ Runs → c.place ≡ places s.place → Spelled m p c (seen p n.storage) s
          → (hs : List Happening) → InStep (fine m places) (reading_of v) (setting_by k code tags lib) p hs stage_start s c n
      either code tags lib v places own enough h p s c n true alone =
          performed k m table base line before acts (clears ++ after) bound (omega (arith, room)) (omega (arith, room, behind_length)) performs_line code tags lib v places own enough private_stands p s c n (ap (λ i. is_private_at m p i s.regs) is ∙ alone)
        where
          private_stands : StandsAt (setting_by k code tags lib) v m places own (length before + 1 + length (clears ++ after)) (performed_code before acts (clears ++ after)) line
          private_stands =
              let size : length before + (1 + length clears) + length after ≡ length before + 1 + length (clears ++ after) = omega (arith, behind_length) in
              record {
                words = h.words;
                at = h.at;
                has = subst (λ l. HasAt (setting_by k code tags lib) (reading_of v) (is_quiet line.tag) own (places own) l) (wrap_is before acts clears after (places own)) h.has;
                laid = subst (λ q. Laid m places own q) size h.laid;
              }
      either code tags lib v places own enough h p s c n false shares =
          shared_line k m table base inst z shared keeps at ps qs homes (length clears) (1 + length clears) (access_code acts clears) counted expands code tags lib v places own line is (omega (arith, room, enough)) h p s c n shares
