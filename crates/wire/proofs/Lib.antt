-- SPDX-License-Identifier: MPL-2.0
pub mod Chains
pub mod Reading
pub mod Sound
pub mod Told
pub mod Rows
