pub mod Turning
pub mod Qubits
pub mod AxisQubits
pub mod Absorbing
