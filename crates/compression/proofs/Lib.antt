-- SPDX-License-Identifier: MPL-2.0
pub mod Bitwise
pub mod Rotations
pub mod Rings
pub mod Turns
