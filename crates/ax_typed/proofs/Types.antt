-- Types, and the numbers of types.
use Rattle.std.proofs.Common.{◌≡◌, ℕ, ◌+◌, ◌-◌, ◌*◌, ◌/◌, ◌^◌, ◌<◌, ◌≤◌, ℤ, pos, negsuc, Bool, true, false, not, List, [], ◌∷◌, refl, sym, ap, ◌∙◌, arith}
use Rattle.std.specs.Prelude.{if◌then◌else◌, nat_lt, slice_index_or}
use Rattle.std.proofs.lemmas.Bool.{eqb-true, true≢false}
use Rattle.std.proofs.lemmas.Bool.Decides.{nat_tests}
use Rattle.std.proofs.lemmas.List.{get_or_past}
use Rattle.std.proofs.lemmas.Nat.{pow_pos, mod_below}
use Rattle.std.proofs.Math.Nat.{div-le_self}
use Rattle.std.proofs.Math.Pow.{pow_mono}
use Rattle.ax_module.specs.declared.inst.BinOp.{BinOp}
use Rattle.ax_module.specs.declared.inst.BinOp.TheVariants as bin
use Rattle.ax_module.specs.declared.inst.Cast.{Cast}
use Rattle.ax_module.specs.declared.inst.Cast.TheVariants.{Zext, Sext, Trunc}
use Rattle.ax_module.specs.declared.types.Ty.{Ty}
use Rattle.ax_module.specs.declared.types.Ty.TheVariants.{I1, I8, I16, I32, I64, I128, Int, Float, Double, Ptr, Vector}
use Rattle.ax_module.specs.Types.{type_bytes}
use Rattle.ax_module.specs.WellFormed.{is_bit}
use Rattle.ax_words.specs.declared.operation.RmwOp.{RmwOp}
use Rattle.ax_words.specs.declared.operation.RmwOp.TheVariants as rmw
use Rattle.ax_ops.specs.Operation.{result_of, signed}
use Rattle.ax_source_run.specs.SourceValues.{computed, converted, number_of_flag, shifted_down, type_bits, wrapped}
use Rattle.ax_access_rules.specs.Mixed.{converts}
use Rattle.ax_rules.specs.Parts.{same_type, type_number}
use Rattle.ax_rules.specs.Width.{is_odd}
use Rattle.ax_typed.specs.Typed.{IsOf}

-- ---- a type by its number
abbrev named : List Ty
named = I1 ∷ I8 ∷ I16 ∷ I32 ∷ I64 ∷ I128 ∷ Float ∷ Double ∷ Ptr ∷ Vector ∷ []

abbrev type_named : ℕ → Ty
type_named n = slice_index_or named n (Int (n - 10))

named_again : (t : Ty) → type_named (type_number t) ≡ t
named_again (Int bits) =
    let n : 10 + bits - 10 ≡ bits = omega arith in
    get_or_past named (10 + bits) (Int (10 + bits - 10)) (omega arith) ∙ ap Int n
named_again I1 = refl
named_again I8 = refl
named_again I16 = refl
named_again I32 = refl
named_again I64 = refl
named_again I128 = refl
named_again Float = refl
named_again Double = refl
named_again Ptr = refl
named_again Vector = refl

pub same_types : (t u : Ty) → same_type t u ≡ true → t ≡ u
same_types t u h = sym (named_again t) ∙ ap type_named (eqb-true (type_number t) (type_number u) h) ∙ named_again u

pub is_true : (b : Bool) → not b ≡ false → b ≡ true
is_true true e = refl
is_true false e = absurd (true≢false e)

pub not_other : (t u : Ty) → not (same_type t u) ≡ false → t ≡ u
not_other t u h = same_types t u (is_true (same_type t u) h)

pub bits_by_bytes : (t : Ty) → is_odd t ≡ false → is_bit t ≡ false → type_bits t ≡ 8 * type_bytes t
bits_by_bytes I1 o b = absurd (true≢false b)
bits_by_bytes (Int bits) o b = absurd (true≢false o)
bits_by_bytes _ o b = refl

-- ---- numbers of so many bits
pub chosen : (b : Bool) (t : Ty) (x y : ℕ) → IsOf t x → IsOf t y → IsOf t (if b then x else y)
chosen true t x y p q = p
chosen false t x y p q = q

pub wrapped_fits : (bits : ℕ) (z : ℤ) → wrapped bits z < 2 ^ bits
wrapped_fits bits (pos n) = mod_below n (2 ^ bits) (pow_pos bits)
wrapped_fits bits (negsuc n) = let p = pow_pos bits in omega (arith, p)

pub flag_fits : (b : Bool) → number_of_flag b < 2 ^ 1
flag_fits true = omega arith
flag_fits false = omega arith

shifted_fits : (bits a n : ℕ) → a < 2 ^ bits → shifted_down bits a n < 2 ^ bits
shifted_fits bits a n h = by (nat_lt a (2 ^ (bits - 1)))
  where
    by : (t : Bool) → (if t then a / 2 ^ n else 2 ^ bits - 1 - (2 ^ bits - 1 - a) / 2 ^ n) < 2 ^ bits
    by true = let d = div-le_self a (2 ^ n) in omega (arith, d, h)
    by false = let p = pow_pos bits in omega (arith, p)

abbrev pub ResultsFit : Type 0
ResultsFit = (width : ℕ) (op : RmwOp) (old v : ℕ) → old < 2 ^ width → v < 2 ^ width → result_of width op old v < 2 ^ width

pub computed_fits : ResultsFit → (op : BinOp) (bits a b : ℕ) → a < 2 ^ bits → b < 2 ^ bits → computed op bits a b < 2 ^ bits
computed_fits fit bin.Add bits a b h k = fit bits rmw.Add a b h k
computed_fits fit bin.Sub bits a b h k = fit bits rmw.Sub a b h k
computed_fits fit bin.Mul bits a b h k = mod_below (a * b) (2 ^ bits) (pow_pos bits)
computed_fits fit bin.And bits a b h k = fit bits rmw.And a b h k
computed_fits fit bin.Or bits a b h k = fit bits rmw.Or a b h k
computed_fits fit bin.Xor bits a b h k = fit bits rmw.Xor a b h k
computed_fits fit bin.Shl bits a b h k = mod_below (a * 2 ^ b) (2 ^ bits) (pow_pos bits)
computed_fits fit bin.Lshr bits a b h k = let d = div-le_self a (2 ^ b) in omega (arith, d, h)
computed_fits fit bin.Ashr bits a b h k = shifted_fits bits a b h

pub converted_fits : (cast : Cast) (t u : Ty) (n : ℕ) → not (converts cast t u) ≡ false → n < 2 ^ type_bits t → converted cast (type_bits t) (type_bits u) n < 2 ^ type_bits u
converted_fits Zext t u n h k =
    let wider : type_bits t ≤ type_bits u = grind (arith, nat_tests) in
    let more = pow_mono wider in
    omega (arith, more, k)
converted_fits Sext t u n h k = wrapped_fits (type_bits u) (signed (type_bits t) n)
converted_fits Trunc t u n h k = mod_below n (2 ^ type_bits u) (pow_pos (type_bits u))
