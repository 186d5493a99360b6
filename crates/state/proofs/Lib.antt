-- SPDX-License-Identifier: MPL-2.0
pub mod Gathered
pub mod Parted
pub mod Sames
pub mod Bits
pub mod StateBack
pub mod StateWhole
pub mod ClientStored
