-- The tests of the eleven rules other than N10, each at any point of a module on a target.
use Rattle.std.specs.Prelude.{ℕ, ◌+◌, Bool, true, false, not, ◌&&◌, ◌||◌, List, [], ◌∷◌}
use Rattle.std.specs.List.{list_any}
use Rattle.ax_module.specs.declared.module.Function.{Function}
use Rattle.ax_module.specs.declared.module.Global.{Global}
use Rattle.ax_module.specs.declared.module.Module.{Module}
use Rattle.ax_module.specs.declared.types.Ty.{Ty}
use Rattle.ax_module.specs.WellFormed.{is_bit}
use Rattle.ax_target.specs.declared.target.Target.{Target}
use Rattle.ax_layout.specs.Layout.{layout_of}
use Rattle.ax_rules.specs.declared.rule.Rule.{Rule}
use Rattle.ax_rules.specs.declared.rule.Rule.TheVariants.{Width, Kind, DynamicShift, UserCall, Parameter, BadOrdering, MixedWidth, AlignOverstated, PlainLocked, NotDefined, Alloca, Limit}
use Rattle.ax_access_rules.specs.Alignment.{overstated, plain_locked}
use Rattle.ax_access_rules.specs.Allocas.{alloca_fault}
use Rattle.ax_rules.specs.Facts.{scope_of}
use Rattle.ax_rules.specs.Kind.{is_other, kind_fault}
use Rattle.ax_rules.specs.Limits.{global_limit_fault, head_limit_fault, limit_fault}
use Rattle.ax_access_rules.specs.Mixed.{mixed_fault}
use Rattle.ax_access_rules.specs.Orders.{order_fault}
use Rattle.ax_rules.specs.Points.{Point, AtGlobal, AtHead, AtInst, is_empty, signature_of}
use Rattle.ax_rules.specs.Signatures.{user_call}
use Rattle.ax_rules.specs.Width.{is_odd, returns_value, shift_fault, width_fault}

-- N1
abbrev pub has_width : Module → Point → Bool
has_width m (AtGlobal g variable) = is_odd variable.elem || is_bit variable.elem
has_width m (AtHead k f) = list_any is_odd (signature_of f)
has_width m (AtInst k f s) = width_fault s.inst

-- N2
abbrev pub has_kind : Module → Point → Bool
has_kind m (AtGlobal g variable) = is_other variable.elem
has_kind m (AtHead k f) = list_any is_other (signature_of f)
has_kind m (AtInst k f s) = kind_fault (scope_of m f) s.inst

-- N3
abbrev pub has_dynamic_shift : Module → Point → Bool
has_dynamic_shift m (AtGlobal g variable) = false
has_dynamic_shift m (AtHead k f) = false
has_dynamic_shift m (AtInst k f s) = shift_fault s.inst

-- N4
abbrev pub has_user_call : Module → Point → Bool
has_user_call m (AtGlobal g variable) = false
has_user_call m (AtHead k f) = false
has_user_call m (AtInst k f s) = user_call s.inst

-- N5
abbrev pub has_parameter : Module → Point → Bool
has_parameter m (AtGlobal g variable) = false
has_parameter m (AtHead k f) = not f.is_void || not (is_empty f.params)
has_parameter m (AtInst k f s) = returns_value s.inst

-- N6
abbrev pub has_bad_ordering : Module → Point → Bool
has_bad_ordering m (AtGlobal g variable) = false
has_bad_ordering m (AtHead k f) = false
has_bad_ordering m (AtInst k f s) = order_fault s.inst

-- N7
abbrev pub has_mixed_width : Module → Point → Bool
has_mixed_width m (AtGlobal g variable) = false
has_mixed_width m (AtHead k f) = false
has_mixed_width m (AtInst k f s) = mixed_fault (scope_of m f) s.inst

-- N12
abbrev pub has_limit : Module → Point → Bool
has_limit m (AtGlobal g variable) = global_limit_fault m.globals g variable
has_limit m (AtHead k f) = head_limit_fault k f
has_limit m (AtInst k f s) = limit_fault s.inst

-- a global can show N1, N2 and N12 alone
abbrev pub has_fault_at : Module → ℕ → Global → Bool
has_fault_at m g variable = has_width m (AtGlobal g variable) || has_kind m (AtGlobal g variable) || has_limit m (AtGlobal g variable)

abbrev pub has_fault_from : Module → ℕ → List Global → Bool
has_fault_from m g [] = false
has_fault_from m g (variable ∷ variables) = has_fault_at m g variable || has_fault_from m (g + 1) variables

-- whether no global has a fault; else there are no addresses, and no N8 and no N9
abbrev pub are_globals_fine : Module → Bool
are_globals_fine m = not (has_fault_from m 0 m.globals)

-- N8
abbrev pub has_overstated : Module → Point → Bool
has_overstated m (AtGlobal g variable) = false
has_overstated m (AtHead k f) = false
has_overstated m (AtInst k f s) = are_globals_fine m && overstated (layout_of m) (scope_of m f) s.inst

-- N9
abbrev pub has_plain_locked : Module → Target → Point → Bool
has_plain_locked m t (AtGlobal g variable) = false
has_plain_locked m t (AtHead k f) = false
has_plain_locked m t (AtInst k f s) = are_globals_fine m && plain_locked (layout_of m) t (scope_of m f) s.inst

-- N11
abbrev pub has_alloca : Module → Point → Bool
has_alloca m (AtGlobal g variable) = false
has_alloca m (AtHead k f) = false
has_alloca m (AtInst k f s) = alloca_fault (scope_of m f) s.block s.inst

-- the test of a rule; N10 has none
abbrev pub test : Rule → Module → Target → Point → Bool
test Width m t p = has_width m p
test Kind m t p = has_kind m p
test DynamicShift m t p = has_dynamic_shift m p
test UserCall m t p = has_user_call m p
test Parameter m t p = has_parameter m p
test BadOrdering m t p = has_bad_ordering m p
test MixedWidth m t p = has_mixed_width m p
test AlignOverstated m t p = has_overstated m p
test PlainLocked m t p = has_plain_locked m t p
test NotDefined m t p = false
test Alloca m t p = has_alloca m p
test Limit m t p = has_limit m p
