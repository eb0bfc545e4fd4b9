-- *Assembly*: comments with the functions' entries and the ranges of the source instructions, then each instruction in its spelling behind its place, with its tag. It is one text for all instruction sets, over the spelling of an instruction at a place.
use Rattle.std.specs.Prelude.{ℕ, ◌+◌, Bool, true, false, Option, Some, None, List, [], ◌∷◌, ◌++◌, codes, decimal, flat_map, find, nat_eq, slice_index, slice_index_or}
use Rattle.ax_isa.specs.declared.images.Image.{Image}
use Rattle.ax_isa.specs.declared.images.RoutineRange.{RoutineRange}
use Rattle.ax_isa.specs.declared.images.SiteRange.{SiteRange}
use Rattle.ax_tags.specs.declared.tags.Tag.{Tag}
use Rattle.ax_tags.specs.declared.tags.Tag.TheVariants.{Silent, Act, Stored, Back, StoredOrMiss, Linked, Call, Free}
use Rattle.ax_tags.specs.declared.tags.Role.{Role}
use Rattle.ax_tags.specs.declared.tags.Role.TheVariants.{None as Outside, Whole, Probe, Compare}
use Rattle.ax_target.specs.declared.target.Target.{Target}
use Rattle.ax_target.specs.declared.target.Target.TheVariants as targets
use Rattle.ax_target.specs.Targets.{name_of as target_name}
use Rattle.ax_words.specs.declared.routine.RoutineName.{RoutineName}
use Rattle.ax_words.specs.Routine.{all_routines, name_of, number_of}
use Rattle.ax_module.specs.Names.{global_token}

-- what begins a comment
abbrev pub comment_of : Target → List ℕ
comment_of (targets.X86 cx16) = codes "#"
comment_of (targets.Arm lse) = codes "//"
comment_of (targets.Rv zabha zacas) = codes "#"

-- a register's number, or that there is none
abbrev pub register_text : Option ℕ → List ℕ
register_text None = 45 ∷ []
register_text (Some r) = decimal r

abbrev pub weak_text : Bool → List ℕ
weak_text true = codes "weak"
weak_text false = codes "strong"

abbrev pub role_text : Role → List ℕ
role_text Outside = codes "none"
role_text Whole = codes "whole"
role_text Probe = codes "probe"
role_text Compare = codes "compare"

-- behind its instruction, as a comment; a silent one has none
abbrev pub tag_text : List ℕ → Tag → List ℕ
tag_text mark Silent = []
tag_text mark Act = 32 ∷ mark ++ codes " act"
tag_text mark Stored = 32 ∷ mark ++ codes " stored"
tag_text mark Back = 32 ∷ mark ++ codes " back"
tag_text mark StoredOrMiss = 32 ∷ mark ++ codes " miss"
tag_text mark (Linked weak expected mask) = 32 ∷ mark ++ codes " linked " ++ weak_text weak ++ 32 ∷ decimal expected ++ 32 ∷ register_text mask
tag_text mark (Call role) = 32 ∷ mark ++ codes " call " ++ role_text role
tag_text mark (Free stored) = 32 ∷ mark ++ codes " free " ++ register_text stored

abbrev pub name_or : Option RoutineName → List ℕ
name_or None = []
name_or (Some routine) = name_of routine

abbrev pub target_line : List ℕ → Target → List ℕ
target_line mark target = mark ++ codes " target " ++ target_name target ++ 10 ∷ []

abbrev pub entry_line : List ℕ → List ℕ → ℕ → ℕ → List ℕ
entry_line mark name place frame = mark ++ codes " entry " ++ global_token name ++ 32 ∷ decimal place ++ 32 ∷ decimal frame ++ 10 ∷ []

-- one line for each function from number f on
abbrev pub entry_lines : List ℕ → List ℕ → List ℕ → ℕ → List (List ℕ) → List ℕ
entry_lines mark entries frames f [] = []
entry_lines mark entries frames f (name ∷ names) = entry_line mark name (slice_index entries f) (slice_index frames f) ++ entry_lines mark entries frames (f + 1) names

abbrev pub site_line : List ℕ → SiteRange → List ℕ
site_line mark range = mark ++ codes " site " ++ decimal range.site.function ++ 32 ∷ decimal range.site.instruction ++ 32 ∷ decimal range.first ++ 32 ∷ decimal range.last ++ 10 ∷ []

abbrev pub routine_numbered : ℕ → Option RoutineName
routine_numbered n = find (λ routine. nat_eq (number_of routine) n) all_routines

-- the name of the routine with a number
abbrev pub routine_text : ℕ → List ℕ
routine_text n = name_or (routine_numbered n)

abbrev pub routine_line : List ℕ → RoutineRange → List ℕ
routine_line mark range = mark ++ codes " routine " ++ routine_text range.routine ++ 32 ∷ decimal range.first ++ 32 ∷ decimal range.last ++ 10 ∷ []

abbrev pub end_line : List ℕ → List ℕ
end_line mark = mark ++ codes " end" ++ 10 ∷ []

module _ {I : Type 0} (instr_text : ℕ → I → List ℕ) (target : Target) where
  abbrev pub instr_line : ℕ → I → Tag → List ℕ
  instr_line place i tag = codes ".L" ++ decimal place ++ codes ": " ++ instr_text place i ++ tag_text (comment_of target) tag ++ 10 ∷ []

  -- the code from its instruction number k on, whose place is k + 1; an instruction without a tag is silent
  abbrev pub instr_lines : List Tag → ℕ → List I → List ℕ
  instr_lines tags k [] = []
  instr_lines tags k (i ∷ code) = instr_line (k + 1) i (slice_index_or tags k Silent) ++ instr_lines tags (k + 1) code

  -- THE ASSEMBLY TEXT
  abbrev pub assembly_text : List (List ℕ) → Image I → List ℕ
  assembly_text names image =
      let mark = comment_of target in
      target_line mark target ++ entry_lines mark image.entries image.frames 0 names ++ flat_map (site_line mark) image.sites ++ flat_map (routine_line mark) image.routines ++ instr_lines image.tags 0 image.code ++ end_line mark
