-- The names of the registers' low 8, 4, 2 and 1 bytes (Intel SDM volume 1, "General-Purpose Registers in 64-Bit Mode"; AT&T's syntax writes a percent sign before them).
use Rattle.std.specs.Prelude.{ℕ, List, [], ◌∷◌, codes, slice_index_or}
use Rattle.ax_x86.specs.declared.instructions.Size.{Size}
use Rattle.ax_x86.specs.declared.instructions.Size.TheVariants.{Byte, Word, Long, Quad}

-- by the registers' numbers, 0 to 15
abbrev pub quads : List (List ℕ)
quads = codes "%rax" ∷ codes "%rcx" ∷ codes "%rdx" ∷ codes "%rbx" ∷ codes "%rsp" ∷ codes "%rbp" ∷ codes "%rsi" ∷ codes "%rdi" ∷ codes "%r8" ∷ codes "%r9" ∷ codes "%r10" ∷ codes "%r11" ∷ codes "%r12" ∷ codes "%r13" ∷ codes "%r14" ∷ codes "%r15" ∷ []

abbrev pub longs : List (List ℕ)
longs = codes "%eax" ∷ codes "%ecx" ∷ codes "%edx" ∷ codes "%ebx" ∷ codes "%esp" ∷ codes "%ebp" ∷ codes "%esi" ∷ codes "%edi" ∷ codes "%r8d" ∷ codes "%r9d" ∷ codes "%r10d" ∷ codes "%r11d" ∷ codes "%r12d" ∷ codes "%r13d" ∷ codes "%r14d" ∷ codes "%r15d" ∷ []

abbrev pub words : List (List ℕ)
words = codes "%ax" ∷ codes "%cx" ∷ codes "%dx" ∷ codes "%bx" ∷ codes "%sp" ∷ codes "%bp" ∷ codes "%si" ∷ codes "%di" ∷ codes "%r8w" ∷ codes "%r9w" ∷ codes "%r10w" ∷ codes "%r11w" ∷ codes "%r12w" ∷ codes "%r13w" ∷ codes "%r14w" ∷ codes "%r15w" ∷ []

abbrev pub bytes : List (List ℕ)
bytes = codes "%al" ∷ codes "%cl" ∷ codes "%dl" ∷ codes "%bl" ∷ codes "%spl" ∷ codes "%bpl" ∷ codes "%sil" ∷ codes "%dil" ∷ codes "%r8b" ∷ codes "%r9b" ∷ codes "%r10b" ∷ codes "%r11b" ∷ codes "%r12b" ∷ codes "%r13b" ∷ codes "%r14b" ∷ codes "%r15b" ∷ []

-- another number has no name
abbrev pub register_name : Size → ℕ → List ℕ
register_name Byte r = slice_index_or bytes r []
register_name Word r = slice_index_or words r []
register_name Long r = slice_index_or longs r []
register_name Quad r = slice_index_or quads r []
