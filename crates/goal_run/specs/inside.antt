pub mod Shapes
pub mod Code
pub mod Lines
pub mod Heading
pub mod MachineView
pub mod Suspended
