-- The routines of libatomic: their names and their order (GCC libatomic ABI).
use Rattle.std.specs.Prelude.{ℕ, List, [], ◌∷◌, Option, codes, find, nat_eq}
use Rattle.std.specs.Cmp.Lexicographic.{pointwise}
use Rattle.ax_words.specs.declared.routine.RoutineName.{RoutineName}
use Rattle.ax_words.specs.declared.routine.RoutineName.TheVariants.{Load1, Store1, Exchange1, CompareExchange1, FetchAdd1, FetchSub1, FetchAnd1, FetchOr1, FetchXor1, FetchNand1, Load2, Store2, Exchange2, CompareExchange2, FetchAdd2, FetchSub2, FetchAnd2, FetchOr2, FetchXor2, FetchNand2, Load4, Store4, Exchange4, CompareExchange4, FetchAdd4, FetchSub4, FetchAnd4, FetchOr4, FetchXor4, FetchNand4, Load8, Store8, Exchange8, CompareExchange8, FetchAdd8, FetchSub8, FetchAnd8, FetchOr8, FetchXor8, FetchNand8, Load16, Store16, Exchange16, CompareExchange16, FetchAdd16, FetchSub16, FetchAnd16, FetchOr16, FetchXor16, FetchNand16, Load, Store, Exchange, CompareExchange, IsLockFree}

unfoldable pub name_of : RoutineName → List ℕ
name_of Load1 = codes "__atomic_load_1"
name_of Store1 = codes "__atomic_store_1"
name_of Exchange1 = codes "__atomic_exchange_1"
name_of CompareExchange1 = codes "__atomic_compare_exchange_1"
name_of FetchAdd1 = codes "__atomic_fetch_add_1"
name_of FetchSub1 = codes "__atomic_fetch_sub_1"
name_of FetchAnd1 = codes "__atomic_fetch_and_1"
name_of FetchOr1 = codes "__atomic_fetch_or_1"
name_of FetchXor1 = codes "__atomic_fetch_xor_1"
name_of FetchNand1 = codes "__atomic_fetch_nand_1"
name_of Load2 = codes "__atomic_load_2"
name_of Store2 = codes "__atomic_store_2"
name_of Exchange2 = codes "__atomic_exchange_2"
name_of CompareExchange2 = codes "__atomic_compare_exchange_2"
name_of FetchAdd2 = codes "__atomic_fetch_add_2"
name_of FetchSub2 = codes "__atomic_fetch_sub_2"
name_of FetchAnd2 = codes "__atomic_fetch_and_2"
name_of FetchOr2 = codes "__atomic_fetch_or_2"
name_of FetchXor2 = codes "__atomic_fetch_xor_2"
name_of FetchNand2 = codes "__atomic_fetch_nand_2"
name_of Load4 = codes "__atomic_load_4"
name_of Store4 = codes "__atomic_store_4"
name_of Exchange4 = codes "__atomic_exchange_4"
name_of CompareExchange4 = codes "__atomic_compare_exchange_4"
name_of FetchAdd4 = codes "__atomic_fetch_add_4"
name_of FetchSub4 = codes "__atomic_fetch_sub_4"
name_of FetchAnd4 = codes "__atomic_fetch_and_4"
name_of FetchOr4 = codes "__atomic_fetch_or_4"
name_of FetchXor4 = codes "__atomic_fetch_xor_4"
name_of FetchNand4 = codes "__atomic_fetch_nand_4"
name_of Load8 = codes "__atomic_load_8"
name_of Store8 = codes "__atomic_store_8"
name_of Exchange8 = codes "__atomic_exchange_8"
name_of CompareExchange8 = codes "__atomic_compare_exchange_8"
name_of FetchAdd8 = codes "__atomic_fetch_add_8"
name_of FetchSub8 = codes "__atomic_fetch_sub_8"
name_of FetchAnd8 = codes "__atomic_fetch_and_8"
name_of FetchOr8 = codes "__atomic_fetch_or_8"
name_of FetchXor8 = codes "__atomic_fetch_xor_8"
name_of FetchNand8 = codes "__atomic_fetch_nand_8"
name_of Load16 = codes "__atomic_load_16"
name_of Store16 = codes "__atomic_store_16"
name_of Exchange16 = codes "__atomic_exchange_16"
name_of CompareExchange16 = codes "__atomic_compare_exchange_16"
name_of FetchAdd16 = codes "__atomic_fetch_add_16"
name_of FetchSub16 = codes "__atomic_fetch_sub_16"
name_of FetchAnd16 = codes "__atomic_fetch_and_16"
name_of FetchOr16 = codes "__atomic_fetch_or_16"
name_of FetchXor16 = codes "__atomic_fetch_xor_16"
name_of FetchNand16 = codes "__atomic_fetch_nand_16"
name_of Load = codes "__atomic_load"
name_of Store = codes "__atomic_store"
name_of Exchange = codes "__atomic_exchange"
name_of CompareExchange = codes "__atomic_compare_exchange"
name_of IsLockFree = codes "__atomic_is_lock_free"

-- the place in the order, counted from 0
unfoldable pub number_of : RoutineName → ℕ
number_of Load1 = 0
number_of Store1 = 1
number_of Exchange1 = 2
number_of CompareExchange1 = 3
number_of FetchAdd1 = 4
number_of FetchSub1 = 5
number_of FetchAnd1 = 6
number_of FetchOr1 = 7
number_of FetchXor1 = 8
number_of FetchNand1 = 9
number_of Load2 = 10
number_of Store2 = 11
number_of Exchange2 = 12
number_of CompareExchange2 = 13
number_of FetchAdd2 = 14
number_of FetchSub2 = 15
number_of FetchAnd2 = 16
number_of FetchOr2 = 17
number_of FetchXor2 = 18
number_of FetchNand2 = 19
number_of Load4 = 20
number_of Store4 = 21
number_of Exchange4 = 22
number_of CompareExchange4 = 23
number_of FetchAdd4 = 24
number_of FetchSub4 = 25
number_of FetchAnd4 = 26
number_of FetchOr4 = 27
number_of FetchXor4 = 28
number_of FetchNand4 = 29
number_of Load8 = 30
number_of Store8 = 31
number_of Exchange8 = 32
number_of CompareExchange8 = 33
number_of FetchAdd8 = 34
number_of FetchSub8 = 35
number_of FetchAnd8 = 36
number_of FetchOr8 = 37
number_of FetchXor8 = 38
number_of FetchNand8 = 39
number_of Load16 = 40
number_of Store16 = 41
number_of Exchange16 = 42
number_of CompareExchange16 = 43
number_of FetchAdd16 = 44
number_of FetchSub16 = 45
number_of FetchAnd16 = 46
number_of FetchOr16 = 47
number_of FetchXor16 = 48
number_of FetchNand16 = 49
number_of Load = 50
number_of Store = 51
number_of Exchange = 52
number_of CompareExchange = 53
number_of IsLockFree = 54

abbrev pub all_routines : List RoutineName
all_routines =
    Load1 ∷ Store1 ∷ Exchange1 ∷ CompareExchange1 ∷ FetchAdd1 ∷
    FetchSub1 ∷ FetchAnd1 ∷ FetchOr1 ∷ FetchXor1 ∷ FetchNand1 ∷
    Load2 ∷ Store2 ∷ Exchange2 ∷ CompareExchange2 ∷ FetchAdd2 ∷
    FetchSub2 ∷ FetchAnd2 ∷ FetchOr2 ∷ FetchXor2 ∷ FetchNand2 ∷
    Load4 ∷ Store4 ∷ Exchange4 ∷ CompareExchange4 ∷ FetchAdd4 ∷
    FetchSub4 ∷ FetchAnd4 ∷ FetchOr4 ∷ FetchXor4 ∷ FetchNand4 ∷
    Load8 ∷ Store8 ∷ Exchange8 ∷ CompareExchange8 ∷ FetchAdd8 ∷
    FetchSub8 ∷ FetchAnd8 ∷ FetchOr8 ∷ FetchXor8 ∷ FetchNand8 ∷
    Load16 ∷ Store16 ∷ Exchange16 ∷ CompareExchange16 ∷ FetchAdd16 ∷
    FetchSub16 ∷ FetchAnd16 ∷ FetchOr16 ∷ FetchXor16 ∷ FetchNand16 ∷
    Load ∷ Store ∷ Exchange ∷ CompareExchange ∷ IsLockFree ∷ []

-- the routine that a name names
abbrev pub routine_named : List ℕ → Option RoutineName
routine_named text = find (λ routine. pointwise nat_eq (name_of routine) text) all_routines
