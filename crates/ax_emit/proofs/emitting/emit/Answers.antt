use Rattle.std.proofs.Common.{◌≡◌, ◌++◌, sym, ap, ◌∙◌, append-nil, arith, refl}
use Rattle.std.specs.Prelude.{ℕ, ◌+◌, ◌<◌, ◌^◌, All, List, length, map}
use Rattle.ax_expand.specs.Standing.{hush}
use Rattle.ax_fine.specs.Fine.{is_quiet}
use Rattle.ax_emit.specs.Images.{code_in, draft}
use Rattle.ax_emit.specs.Passes.{placed, tags_of}
use Rattle.ax_emit.proofs.Passes.{code_goes_on, drop_end, drop_is, end_goes_on, is_there, next_fits, places_are, places_few, tags_go_on}
use Rattle.ax_emit.proofs.emitting.emit.Goals as goal

pub push_code-requires : goal.push_code-requires
push_code-requires g c =
    let size = g.E.LineEmitter.size_of c.args.emitter.now in
    let lines = c.args.lines.now in
    let line = c.line-item.result in
    let i = c.loop-line.line-index in
    let front = drop_is lines i line c.loop-line-test.true c.line-item.is in
    let below : (ps : List ℕ) → ps ≡ c.in_ok-places.places.items → All (λ p. p < 2 ^ 31) ps = λ ps is. places_few size ps lines (2 ^ 31) (is ∙ c.in_ok-places.ensures) c.requires.few in
    record {
      takes = c.requires.taken i line (is_there lines i line c.loop-line-test.true c.line-item.is);
      places = below _ c.as_slice.ensures.value;
      start = next_fits size c.loop-line.start i line lines front _ (size line) refl c.loop-line.invariant.end c.requires.few;
    }

pub overflow_cast-count : goal.overflow_cast-count
overflow_cast-count g c =
    let size = g.E.LineEmitter.size_of c.args.emitter.now in
    let code_of = g.E.LineEmitter.code_of c.args.emitter.now in
    let lines = c.args.lines.now in
    let line = c.line-item.result in
    let i = c.loop-line.line-index in
    let at = c.loop-line.start in
    let places : ℕ → ℕ = placed c.in_ok-places.places.items in
    let piece : c.push_code.new.out.items ≡ code_of places at line = c.in_ok-push_code.ensures ∙ ap (λ zs. zs ++ code_of (placed c.as_slice.result.now) at line) c.new-piece.ensures.items ∙ ap (λ ps. code_of (placed ps) at line) c.as_slice.ensures.value in
    let count : c.len-count.result ≡ size line = c.len-count.ensures ∙ c.push_code.new.out.ok.0 ∙ ap length piece ∙ c.requires.sized i line (is_there lines i line c.loop-line-test.true c.line-item.is) places at in
    let front = drop_is lines i line c.loop-line-test.true c.line-item.is in
    let fits = next_fits size at i line lines front _ c.len-count.result count c.loop-line.invariant.end c.requires.few in
    omega (arith, fits)

pub overflow_add-start : goal.overflow_add-start
overflow_add-start g c =
    let size = g.E.LineEmitter.size_of c.args.emitter.now in
    let code_of = g.E.LineEmitter.code_of c.args.emitter.now in
    let lines = c.args.lines.now in
    let line = c.line-item.result in
    let i = c.loop-line.line-index in
    let at = c.loop-line.start in
    let places : ℕ → ℕ = placed c.in_ok-places.places.items in
    let piece : c.push_code.new.out.items ≡ code_of places at line = c.in_ok-push_code.ensures ∙ ap (λ zs. zs ++ code_of (placed c.as_slice.result.now) at line) c.new-piece.ensures.items ∙ ap (λ ps. code_of (placed ps) at line) c.as_slice.ensures.value in
    let count : c.len-count.result ≡ size line = c.len-count.ensures ∙ c.push_code.new.out.ok.0 ∙ ap length piece ∙ c.requires.sized i line (is_there lines i line c.loop-line-test.true c.line-item.is) places at in
    let front = drop_is lines i line c.loop-line-test.true c.line-item.is in
    let fits = next_fits size at i line lines front _ c.len-count.result count c.loop-line.invariant.end c.requires.few in
    omega (arith, fits)

pub loop-line-preserved : goal.loop-line-preserved
loop-line-preserved g c =
    let size = g.E.LineEmitter.size_of c.args.emitter.now in
    let code_of = g.E.LineEmitter.code_of c.args.emitter.now in
    let lines = c.args.lines.now in
    let line = c.line-item.result in
    let i = c.loop-line.line-index in
    let at = c.loop-line.start in
    let places : ℕ → ℕ = placed c.in_ok-places.places.items in
    let front = drop_is lines i line c.loop-line-test.true c.line-item.is in
    let piece : c.push_code.new.out.items ≡ code_of places at line = c.in_ok-push_code.ensures ∙ ap (λ zs. zs ++ code_of (placed c.as_slice.result.now) at line) c.new-piece.ensures.items ∙ ap (λ ps. code_of (placed ps) at line) c.as_slice.ensures.value in
    let count : c.len-count.result ≡ size line = c.len-count.ensures ∙ c.push_code.new.out.ok.0 ∙ ap length piece ∙ c.requires.sized i line (is_there lines i line c.loop-line-test.true c.line-item.is) places at in
    let next : at + c.len-count.result ≡ at + size line = ap (λ q. at + q) count in
    let made : c.push_line.new.code.items ≡ c.loop-line.code.items ++ map (λ z. z.0) (code_of places at line) = c.in_ok-push_line.ensures.code ∙ ap (λ zs. c.loop-line.code.items ++ map (λ z. z.0) zs) piece in
    let told : c.push_line.new.tags.items ≡ c.loop-line.tags.items ++ map (λ z. hush (is_quiet line.tag) z.1) (code_of places at line) = c.in_ok-push_line.ensures.tags ∙ ap (λ q. c.loop-line.tags.items ++ map (λ z. hush q z.1) c.push_code.new.out.items) c.is_quiet.ensures ∙ ap (λ zs. c.loop-line.tags.items ++ map (λ z. hush (is_quiet line.tag) z.1) zs) piece in
    record {
      code = code_goes_on size at i line lines front code_of places _ c.loop-line.code.items _ _ made next c.loop-line.invariant.code;
      tags = tags_go_on size at i line lines front code_of places _ c.loop-line.tags.items _ _ told next c.loop-line.invariant.tags;
      end = end_goes_on size at i line lines front _ _ next c.loop-line.invariant.end;
    }

-- the list of places has those that the image has
pub returns-clause-code : goal.returns-clause-code
returns-clause-code g c =
    let size = g.E.LineEmitter.size_of c.args.emitter.now in
    let code_of = g.E.LineEmitter.code_of c.args.emitter.now in
    let lines = c.args.lines.now in
    sym (append-nil c.loop-line.code.items)
    ∙ ap (λ zs. c.loop-line.code.items ++ code_in (draft size code_of (placed c.in_ok-places.places.items) zs c.loop-line.start c.loop-line.line-index)) (sym (drop_end lines c.loop-line.line-index c.loop-line-test.false)) ∙ c.loop-line.invariant.code
    ∙ ap (λ ps. code_in (draft size code_of (placed ps) lines 1 0)) c.in_ok-places.ensures ∙ ap (λ ps. code_in (draft size code_of ps lines 1 0)) (places_are size code_of lines)

pub returns-clause-tags : goal.returns-clause-tags
returns-clause-tags g c =
    let size = g.E.LineEmitter.size_of c.args.emitter.now in
    let code_of = g.E.LineEmitter.code_of c.args.emitter.now in
    let lines = c.args.lines.now in
    sym (append-nil c.loop-line.tags.items)
    ∙ ap (λ zs. c.loop-line.tags.items ++ tags_of (draft size code_of (placed c.in_ok-places.places.items) zs c.loop-line.start c.loop-line.line-index)) (sym (drop_end lines c.loop-line.line-index c.loop-line-test.false)) ∙ c.loop-line.invariant.tags
    ∙ ap (λ ps. tags_of (draft size code_of (placed ps) lines 1 0)) c.in_ok-places.ensures ∙ ap (λ ps. tags_of (draft size code_of ps lines 1 0)) (places_are size code_of lines)
