-- SPDX-License-Identifier: MPL-2.0
pub mod Certificates
pub mod Telling
pub mod HostWays
pub mod StepCases
pub mod QuietKeeps
pub mod StepMachine
