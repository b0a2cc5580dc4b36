-- What an operation is refused for where its value can not be made.
use Rattle.values_core.specs.Integers.{the_term}
use Rattle.values_core.specs.declared.value.ValueFault.{ValueFault}
use Rattle.values_core.specs.declared.value.ValueFault.TheVariants.{KeyTwice, TooLarge as LargeValue, TooDeep as DeepValue, NoMemory as NoRoom}
use Rattle.values_core.specs.declared.fault.EvalKind.TheVariants.{NotFunction, TooLarge, TooDeep}
use Rattle.values_core.specs.declared.fault.OpFault.{OpFault}
use Rattle.values_core.specs.declared.fault.OpFault.TheVariants.{Refused, NoMemory}

-- the fault of making a value, as the fault of the term; pairs with a key twice are no function
abbrev pub refusal_of : ValueFault → OpFault
refusal_of LargeValue = Refused TooLarge the_term
refusal_of DeepValue = Refused TooDeep the_term
refusal_of KeyTwice = Refused NotFunction the_term
refusal_of NoRoom = NoMemory
