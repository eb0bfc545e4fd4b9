-- The name of a routine names it alone.
use Rattle.std.proofs.Common.{◌≡◌, refl}
use Rattle.std.specs.Prelude.{Some}
use Rattle.ax_words.specs.declared.routine.RoutineName.{RoutineName}
use Rattle.ax_words.specs.declared.routine.RoutineName.TheVariants.{Load1, Store1, Exchange1, CompareExchange1, FetchAdd1, FetchSub1, FetchAnd1, FetchOr1, FetchXor1, FetchNand1, Load2, Store2, Exchange2, CompareExchange2, FetchAdd2, FetchSub2, FetchAnd2, FetchOr2, FetchXor2, FetchNand2, Load4, Store4, Exchange4, CompareExchange4, FetchAdd4, FetchSub4, FetchAnd4, FetchOr4, FetchXor4, FetchNand4, Load8, Store8, Exchange8, CompareExchange8, FetchAdd8, FetchSub8, FetchAnd8, FetchOr8, FetchXor8, FetchNand8, Load16, Store16, Exchange16, CompareExchange16, FetchAdd16, FetchSub16, FetchAnd16, FetchOr16, FetchXor16, FetchNand16, Load, Store, Exchange, CompareExchange, IsLockFree}
use Rattle.ax_words.specs.Routine.{name_of, routine_named}

pub routine_named-name_of : (routine : RoutineName) → routine_named (name_of routine) ≡ Some routine
unfolding name_of
routine_named-name_of Load1 = refl
routine_named-name_of Store1 = refl
routine_named-name_of Exchange1 = refl
routine_named-name_of CompareExchange1 = refl
routine_named-name_of FetchAdd1 = refl
routine_named-name_of FetchSub1 = refl
routine_named-name_of FetchAnd1 = refl
routine_named-name_of FetchOr1 = refl
routine_named-name_of FetchXor1 = refl
routine_named-name_of FetchNand1 = refl
routine_named-name_of Load2 = refl
routine_named-name_of Store2 = refl
routine_named-name_of Exchange2 = refl
routine_named-name_of CompareExchange2 = refl
routine_named-name_of FetchAdd2 = refl
routine_named-name_of FetchSub2 = refl
routine_named-name_of FetchAnd2 = refl
routine_named-name_of FetchOr2 = refl
routine_named-name_of FetchXor2 = refl
routine_named-name_of FetchNand2 = refl
routine_named-name_of Load4 = refl
routine_named-name_of Store4 = refl
routine_named-name_of Exchange4 = refl
routine_named-name_of CompareExchange4 = refl
routine_named-name_of FetchAdd4 = refl
routine_named-name_of FetchSub4 = refl
routine_named-name_of FetchAnd4 = refl
routine_named-name_of FetchOr4 = refl
routine_named-name_of FetchXor4 = refl
routine_named-name_of FetchNand4 = refl
routine_named-name_of Load8 = refl
routine_named-name_of Store8 = refl
routine_named-name_of Exchange8 = refl
routine_named-name_of CompareExchange8 = refl
routine_named-name_of FetchAdd8 = refl
routine_named-name_of FetchSub8 = refl
routine_named-name_of FetchAnd8 = refl
routine_named-name_of FetchOr8 = refl
routine_named-name_of FetchXor8 = refl
routine_named-name_of FetchNand8 = refl
routine_named-name_of Load16 = refl
routine_named-name_of Store16 = refl
routine_named-name_of Exchange16 = refl
routine_named-name_of CompareExchange16 = refl
routine_named-name_of FetchAdd16 = refl
routine_named-name_of FetchSub16 = refl
routine_named-name_of FetchAnd16 = refl
routine_named-name_of FetchOr16 = refl
routine_named-name_of FetchXor16 = refl
routine_named-name_of FetchNand16 = refl
routine_named-name_of Load = refl
routine_named-name_of Store = refl
routine_named-name_of Exchange = refl
routine_named-name_of CompareExchange = refl
routine_named-name_of IsLockFree = refl
