pub mod MachineState
pub mod Plans
pub mod Waiting
pub mod Machine
pub mod Objects
pub mod Start
pub mod RunState
pub mod Run
