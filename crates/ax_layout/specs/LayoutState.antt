-- What contracts see of a layout.
use Rattle.std.specs.Prelude.{ℕ, ◌+◌, ◌*◌, ◌≤◌, List}
use Rattle.ax_map.specs.Map.{globals_limit}
use Rattle.ax_layout.specs.declared.address_range.AddressRange.{AddressRange}

-- where each global lies, and the address behind the last
pub record LayoutState : Type 0 where
  pub spans : List AddressRange
  pub end : ℕ

abbrev pub end_of_span : AddressRange → ℕ
end_of_span span = span.start + span.count * span.bytes

-- a global passes no limit
abbrev pub IsInReach : AddressRange → Type 0
IsInReach span = end_of_span span ≤ globals_limit
