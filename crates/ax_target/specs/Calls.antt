-- The rows of calls (GCC libatomic ABI).
use Rattle.std.specs.Prelude.{ℕ, List, [], ◌∷◌, ◌++◌, map, codes}
use Rattle.ax_words.specs.declared.operation.RmwOp.TheVariants.{Xchg, Add, Sub, And, Nand, Or, Xor, Max, Min, UMax, UMin}
use Rattle.ax_words.specs.declared.width.Width.{Width}
use Rattle.ax_words.specs.declared.width.Width.TheVariants.{W8, W16, W32, W64, W128}
use Rattle.ax_words.specs.declared.mark.Op.{Op}
use Rattle.ax_words.specs.declared.mark.Op.TheVariants.{Load as Loading, Store as Storing, Cmpxchg, Rmw, Fence}
use Rattle.ax_words.specs.declared.routine.RoutineName.{RoutineName}
use Rattle.ax_words.specs.declared.routine.RoutineName.TheVariants.{Load1, Store1, Exchange1, CompareExchange1, FetchAdd1, FetchSub1, FetchAnd1, FetchOr1, FetchXor1, FetchNand1, Load2, Store2, Exchange2, CompareExchange2, FetchAdd2, FetchSub2, FetchAnd2, FetchOr2, FetchXor2, FetchNand2, Load4, Store4, Exchange4, CompareExchange4, FetchAdd4, FetchSub4, FetchAnd4, FetchOr4, FetchXor4, FetchNand4, Load8, Store8, Exchange8, CompareExchange8, FetchAdd8, FetchSub8, FetchAnd8, FetchOr8, FetchXor8, FetchNand8, Load16, Store16, Exchange16, CompareExchange16, FetchAdd16, FetchSub16, FetchAnd16, FetchOr16, FetchXor16, FetchNand16, Load, Store, Exchange, CompareExchange}
use Rattle.ax_target.specs.declared.calls.SizedRoutines.{SizedRoutines}

-- the ten routines of a size, in the order of the ABI
abbrev pub ten : RoutineName → RoutineName → RoutineName → RoutineName → RoutineName → RoutineName → RoutineName → RoutineName → RoutineName → RoutineName → SizedRoutines
ten load store exchange compare_exchange fetch_add fetch_sub fetch_and fetch_or fetch_xor fetch_nand =
    record { load = load; store = store; exchange = exchange; compare_exchange = compare_exchange; fetch_add = fetch_add; fetch_sub = fetch_sub; fetch_and = fetch_and; fetch_or = fetch_or; fetch_xor = fetch_xor; fetch_nand = fetch_nand }

abbrev pub routines_of : Width → SizedRoutines
routines_of W8 = ten Load1 Store1 Exchange1 CompareExchange1 FetchAdd1 FetchSub1 FetchAnd1 FetchOr1 FetchXor1 FetchNand1
routines_of W16 = ten Load2 Store2 Exchange2 CompareExchange2 FetchAdd2 FetchSub2 FetchAnd2 FetchOr2 FetchXor2 FetchNand2
routines_of W32 = ten Load4 Store4 Exchange4 CompareExchange4 FetchAdd4 FetchSub4 FetchAnd4 FetchOr4 FetchXor4 FetchNand4
routines_of W64 = ten Load8 Store8 Exchange8 CompareExchange8 FetchAdd8 FetchSub8 FetchAnd8 FetchOr8 FetchXor8 FetchNand8
routines_of W128 = ten Load16 Store16 Exchange16 CompareExchange16 FetchAdd16 FetchSub16 FetchAnd16 FetchOr16 FetchXor16 FetchNand16

-- an operation without a routine loads, and then compares and exchanges in a loop
abbrev pub sized_calls : Op → SizedRoutines → List RoutineName
sized_calls Loading routines = routines.load ∷ []
sized_calls Storing routines = routines.store ∷ []
sized_calls (Rmw Xchg) routines = routines.exchange ∷ []
sized_calls Cmpxchg routines = routines.compare_exchange ∷ []
sized_calls (Rmw Add) routines = routines.fetch_add ∷ []
sized_calls (Rmw Sub) routines = routines.fetch_sub ∷ []
sized_calls (Rmw And) routines = routines.fetch_and ∷ []
sized_calls (Rmw Or) routines = routines.fetch_or ∷ []
sized_calls (Rmw Xor) routines = routines.fetch_xor ∷ []
sized_calls (Rmw Nand) routines = routines.fetch_nand ∷ []
sized_calls (Rmw Max) routines = routines.load ∷ routines.compare_exchange ∷ []
sized_calls (Rmw Min) routines = routines.load ∷ routines.compare_exchange ∷ []
sized_calls (Rmw UMax) routines = routines.load ∷ routines.compare_exchange ∷ []
sized_calls (Rmw UMin) routines = routines.load ∷ routines.compare_exchange ∷ []
sized_calls Fence routines = []

abbrev pub generic_calls : Op → List RoutineName
generic_calls Loading = Load ∷ []
generic_calls Storing = Store ∷ []
generic_calls (Rmw Xchg) = Exchange ∷ []
generic_calls Cmpxchg = CompareExchange ∷ []
generic_calls (Rmw op) = Load ∷ CompareExchange ∷ []
generic_calls Fence = []

-- the words in their names, in the same order
abbrev pub ten_words : List (List ℕ)
ten_words =
    codes "load" ∷ codes "store" ∷ codes "exchange" ∷ codes "compare_exchange" ∷ codes "fetch_add" ∷
    codes "fetch_sub" ∷ codes "fetch_and" ∷ codes "fetch_or" ∷ codes "fetch_xor" ∷ codes "fetch_nand" ∷ []

abbrev pub size_word : Width → List ℕ
size_word W8 = codes "1"
size_word W16 = codes "2"
size_word W32 = codes "4"
size_word W64 = codes "8"
size_word W128 = codes "16"

abbrev pub sized_names : Width → List (List ℕ)
sized_names width = map (λ word. codes "__atomic_" ++ word ++ codes "_" ++ size_word width) ten_words

abbrev pub listed : SizedRoutines → List RoutineName
listed r = r.load ∷ r.store ∷ r.exchange ∷ r.compare_exchange ∷ r.fetch_add ∷ r.fetch_sub ∷ r.fetch_and ∷ r.fetch_or ∷ r.fetch_xor ∷ r.fetch_nand ∷ []
